-- Laws of lists with one result for each word, in the first slots of a lent list. Assumes nothing.
use mathlib.Core.Path.{◌≡◌, refl, sym, ap, ap₂, ◌∙◌}
use mathlib.Core.List.{List, ◌++◌, map, append-nil}
use mathlib.Core.Bool.{not}
use Prim.Native.Nat.{ℕ, zero, suc, ◌^◌, ◌≤◌, ◌<◌, min}
use native.Mathlib.Nat.{suc-ne-zero}
use native.Mathlib.Omega.{arith}
use lib.Dec.{eqb, ltb}
use lib.ListN.{length, get_or, take, drop, length-map}
use lib.Seq.{take_all, drop-length, take_at, drop_at}
use borrow.Author.Tests.{le-ltb, ne_eqb}
use Rattle.coding.specs.Lists.{first}
use Rattle.coding.proofs.ListLaws.{get_d_map, take_most, drop_most}
use Rattle.coding.proofs.SearchLaws.{first_same}
use Rattle.words.specs.Shape.{outside, first_outside}

-- as many words as there are slots, and the slots behind them
pub as_many : (f : ℕ → ℕ) (words out : List ℕ) (m : ℕ) → m ≡ min (length words) (length out)
    → map f (take m words) ++ drop m out ≡ map f (take (length out) words) ++ drop (length words) out
as_many f words out m e =
    ap₂ (λ (x y : List ℕ). map f x ++ y) (take_most words (length out) m (omega arith)) (drop_most out (length words) m e)

-- where there is a slot for each word, each has its result
pub enough-slots : (f : ℕ → ℕ) (words out : List ℕ) → length words ≤ length out
    → map f (take (length out) words) ++ drop (length words) out ≡ map f words ++ drop (length words) out
enough-slots f words out h = ap (λ (l : List ℕ). map f l ++ drop (length words) out) (take_all (length out) words h)

-- and nothing else stands in a list of as many
pub all_slots : (f : ℕ → ℕ) (words out : List ℕ) → length out ≡ length words
    → map f (take (length out) words) ++ drop (length words) out ≡ map f words
all_slots f words out h =
    enough-slots f words out (omega arith) ∙ ap (λ (l : List ℕ). map f words ++ l) (ap (λ (m : ℕ). drop m out) (sym h) ∙ drop-length out)
    ∙ append-nil (map f words)

-- they stand in the first slots
module _ (f : ℕ → ℕ) (words out results : List ℕ) (h : length words ≤ length out) (e : results ≡ map f (take (length out) words) ++ drop (length words) out) where
  all_are : results ≡ map f words ++ drop (length words) out
  all_are = e ∙ enough-slots f words out h

  pub first_are : take (length words) results ≡ map f words
  first_are = ap (take (length words)) all_are ∙ take_at (map f words) (drop (length words) out) (length words) (length-map words f)

  pub first_long : length (take (length words) results) ≡ length words
  first_long = ap length first_are ∙ length-map words f

  pub later_are : drop (length words) results ≡ drop (length words) out
  later_are = ap (drop (length words)) all_are ∙ drop_at (map f words) (drop (length words) out) (length words) (length-map words f)

  pub first_fit : (m : ℕ) → ((i : ℕ) → i < length words → f (get_or words i 0) < m) → (i : ℕ) → i < length (take (length words) results)
      → get_or (take (length words) results) i 0 < m
  first_fit m fits i k =
      let l : i < length words = rw first_long at k in
      rw (first_are, get_d_map f words i l) (fits i l)

-- the first result that is not 0
pub first_nonzero : (f : ℕ → ℕ) (words : List ℕ) → first_outside 0 (map f words) ≡ first (λ i. not (eqb (f (get_or words i 0)) 0)) (length words)
first_nonzero f words = ap (first (outside 0 (map f words))) (length-map words f) ∙ first_same _ _ (length words) (λ i h. ap not (same i h))
  where
    zero_test : (x : ℕ) → ltb x (2 ^ 0) ≡ eqb x 0
    zero_test zero = refl
    zero_test (suc x) = le-ltb (suc x) 1 (omega arith) ∙ sym (ne_eqb (suc x) 0 (suc-ne-zero x))

    same : (i : ℕ) → i < length words → ltb (get_or (map f words) i 0) (2 ^ 0) ≡ eqb (f (get_or words i 0)) 0
    same i h = ap (λ (x : ℕ). ltb x (2 ^ 0)) (get_d_map f words i h) ∙ zero_test (f (get_or words i 0))
