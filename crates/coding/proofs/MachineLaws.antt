-- Laws of the machine's shifts and masks, as the code writes them on words. Assumes nothing.
use mathlib.Core.Path.{◌≡◌, refl, sym, ap, ◌∙◌}
use mathlib.Core.Bool.{Bool, true, false}
use Prim.Native.Nat.{ℕ, zero, suc, ◌+◌, ◌-◌, ◌*◌, ◌/◌, ◌%◌, ◌^◌, ◌≤◌, ◌<◌}
use native.Mathlib.Nat.{div-eq_of_lt, div-lt_iff_lt-mul, lt_of_lt_of_le, one-mul, mod-eq_of_lt}
use native.Mathlib.Omega.{arith}
use lib.Dec.{eqb, ltb, lit<}
use lib.Pow.{pow_pos, pow_mono, shl_exact}
use lib.Bits.{bit_and, bit_xor, and_comm, and_mask, and_shifted, xor_shifted}
use borrow.Author.Tests.{lt-ltb, ltb-true, ltb-false, eq-eqb, ne_eqb}
use Rattle.coding.specs.Word.{bit}
use Rattle.coding.specs.Matrix.{sel}

-- a one shifted to place i, below the width
pub shl_one : (i w : ℕ) → i < w → (1 * 2 ^ i) % 2 ^ w ≡ 2 ^ i
shl_one i w h = shl_exact 1 i w (lit< tt) (omega arith) ∙ one-mul (2 ^ i)

-- no one at place n or beyond, by the shift that the code tests
pub fits_shift : (w n : ℕ) → eqb (w / 2 ^ n) 0 ≡ ltb w (2 ^ n)
fits_shift w n = go (ltb w (2 ^ n)) refl
  where
    go : (b : Bool) → ltb w (2 ^ n) ≡ b → eqb (w / 2 ^ n) 0 ≡ b
    go true e = eq-eqb (w / 2 ^ n) 0 (div-eq_of_lt (ltb-true w (2 ^ n) e))
    go false e = ne_eqb (w / 2 ^ n) 0 (λ z. over z)
      where
        over : w / 2 ^ n ≡ 0 → ⊥
        over z =
            let l : w / 2 ^ n < 1 = omega arith in
            absurd (omega (arith, ltb-false w (2 ^ n) e, rw one-mul at ((div-lt_iff_lt-mul (pow_pos n)).0 l)))

-- a word of m places has none at place n, at m or beyond
pub fits_all : (m w n : ℕ) → w < 2 ^ m → m ≤ n → true ≡ ltb w (2 ^ n)
fits_all m w n h l = sym (lt-ltb w (2 ^ n) (lt_of_lt_of_le h (pow_mono l)))

-- so its place i, at m or beyond, is 0
pub bit_beyond : (m w i : ℕ) → w < 2 ^ m → m ≤ i → bit w i ≡ 0
bit_beyond m w i h l = ap (λ (x : ℕ). x % 2) (div-eq_of_lt (lt_of_lt_of_le h (pow_mono l)))

-- a row where a digit is 1, by the mask that the digit makes
pub masked_digit : (row m : ℕ) → row < 2 ^ 32 → bit_and row (2 ^ 32 - bit_and m 1) ≡ sel (m % 2) row
masked_digit row m h = ap (λ (c : ℕ). bit_and row (2 ^ 32 - c)) (and_mask m 1) ∙ go (m % 2) (omega arith)
  where
    go : (c : ℕ) → c < 2 → bit_and row (2 ^ 32 - c) ≡ sel c row
    go zero l = and_comm row (1 * 2 ^ 32) ∙ and_shifted 1 32 row h
    go (suc zero) l = and_mask row 32 ∙ mod-eq_of_lt h
    go (suc (suc c)) l = absurd (omega arith)

pub sel-le : (c row : ℕ) → sel c row ≤ row
sel-le zero row = omega arith
sel-le (suc c) row = omega arith

-- a digit is joined below the others
pub joined : (s b : ℕ) → s * 2 + b < 2 ^ 32 → b < 2 → bit_xor ((s * 2 ^ 1) % 2 ^ 32) b ≡ s * 2 + b
joined s b h l = ap (λ (x : ℕ). bit_xor x b) (shl_exact {a = s} 31 1 32 (omega arith) (omega arith)) ∙ xor_shifted s 1 b l
