-- Laws of the words in a sheet: how many they are, each of them, that each has 32 bits, and a list of them cut short.
use mathlib.Core.Path.{◌≡◌, sym, ap, ◌∙◌}
use mathlib.Core.List.{List}
use Prim.Native.Nat.{ℕ, min, ◌+◌, ◌*◌, ◌^◌, ◌≤◌, ◌<◌}
use native.Mathlib.Omega.{arith}
use native.Mathlib.Decide.{dec_le}
use lib.ListN.{length, get_or, take}
use lib.Seq.{take_all}
use Rattle.coding.specs.Matrix.{Inside}
use Rattle.coding.proofs.ListLaws.{length-tabulate, get_d_tabulate, take-tabulate}
use Rattle.sheet.specs.Words.{word_at, words_at}

pub words_cut : (s : List ℕ) (at count r : ℕ) → r ≤ count → words_at s at r ≡ take r (words_at s at count)
unfolding words_at
words_cut s at count r h = sym (take-tabulate (λ i. word_at s (at + 4 * i)) count r h)

pub length-words : (s : List ℕ) (at count : ℕ) → length (words_at s at count) ≡ count
unfolding words_at
length-words s at count = length-tabulate (λ i. word_at s (at + 4 * i)) count

-- of count words as many as there is room for
pub words_most : (s : List ℕ) (at count room r : ℕ) → r ≡ min count room → words_at s at r ≡ take room (words_at s at count)
words_most s at count room r e = words_cut s at count r (omega arith) ∙ go (dec_le room count)
  where
    go : Dec (room ≤ count) → take r (words_at s at count) ≡ take room (words_at s at count)
    go (yes l) = let q : r ≡ room = omega arith in ap (λ (m : ℕ). take m (words_at s at count)) q
    go (no n) =
        let long = length-words s at count in
        take_all r (words_at s at count) (omega (arith, long)) ∙ sym (take_all room (words_at s at count) (omega (arith, long)))

pub word_of : (s : List ℕ) (at count i : ℕ) → i < count → get_or (words_at s at count) i 0 ≡ word_at s (at + 4 * i)
unfolding words_at
word_of s at count i h = get_d_tabulate (λ j. word_at s (at + 4 * j)) count i h

-- four bytes are a number of 32 bits
pub words_inside : (s : List ℕ) → ((i : ℕ) → get_or s i 0 < 2 ^ 8) → (at count : ℕ) → Inside 32 (words_at s at count)
unfolding word_at
words_inside s f at count i h =
    rw (word_of s at count i (rw (length-words s at count) at h))
    (omega (arith, f (at + 4 * i), f (at + 4 * i + 1), f (at + 4 * i + 2), f (at + 4 * i + 3)))
