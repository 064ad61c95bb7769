-- 01, "Words and matrices": a word of n places is a number below 2 ^ n, and its bit i is place i.
use Rattle.std.specs.Prelude.{ℕ, ◌/◌, ◌%◌, ◌^◌}
use Rattle.std.specs.Int.Bits.{bit_xor, bit_and}
use Rattle.std.specs.Int.Count.{ones}

-- the sum of two words, place by place, modulo 2
abbrev pub ◌⊕◌ : ℕ → ℕ → ℕ
a ⊕ b = bit_xor a b

infixl 65 ◌⊕◌
-- place i
abbrev pub bit : ℕ → ℕ → ℕ
bit w i = w / 2 ^ i % 2

-- the Hamming weight: the number of ones
abbrev pub weight : ℕ → ℕ
weight w = ones w

-- the Hamming distance: the weight of the sum
abbrev pub distance : ℕ → ℕ → ℕ
distance a b = weight (a ⊕ b)

-- the parity of the places of w where h has a one
unfoldable pub parity : ℕ → ℕ → ℕ
parity w h = weight (bit_and w h) % 2
