-- One computed test of a list of columns, and the rule that it stands for. Assumes nothing.
use mathlib.Core.Path.{◌≡◌, refl, sym, ap, ◌∙◌}
use mathlib.Core.Logic.{◌≢◌}
use mathlib.Core.Bool.{Bool, true, not, ◌&&◌}
use mathlib.Core.List.{List, [], ◌∷◌}
use Prim.Native.Nat.{ℕ, zero, suc, ◌%◌, ◌^◌, ◌<◌}
use native.Mathlib.Omega.{arith}
use lib.Dec.{T, T_not, eqb, ltb, eqb→eq, ltb→lt, eqb_refl}
use lib.Count.{ones_in}
use lib.ListN.{length, get_or}
use Rattle.coding.specs.Word.{weight}
use Rattle.coding.specs.Columns.{OddColumns}
use Rattle.coding.proofs.WeightLaws.{weight_in}
use Rattle.coding.proofs.TestLaws.{and_left, and_right}

-- no entry is x
abbrev absent : ℕ → List ℕ → Bool
absent x [] = true
absent x (y ∷ ys) = not (eqb x y) && absent x ys

-- each column is within c places, of odd weight, no single bit, and none of the later ones
unfoldable pub odd_columns : ℕ → List ℕ → Bool
odd_columns c [] = true
odd_columns c (x ∷ xs) =
    ltb x (2 ^ c) && (eqb (ones_in c x % 2) 1 && (not (eqb (ones_in c x) 1) && (absent x xs && odd_columns c xs)))

record Tested (c x : ℕ) (xs : List ℕ) : Type 0 where
  inside : x < 2 ^ c
  odd : weight x % 2 ≡ 1
  no_unit : weight x ≢ 1
  new : T (absent x xs)
  later : T (odd_columns c xs)

tested : (c x : ℕ) (xs : List ℕ) → T (odd_columns c (x ∷ xs)) → Tested c x xs
unfolding odd_columns
tested c x xs t =
    let p₁ = ltb x (2 ^ c) in
    let p₂ = eqb (ones_in c x % 2) 1 in
    let p₃ = not (eqb (ones_in c x) 1) in
    let r₃ = absent x xs && odd_columns c xs in
    let r₂ = p₃ && r₃ in
    let r₁ = p₂ && r₂ in
    let t₁ : T r₁ = and_right p₁ r₁ t in
    let t₂ : T r₂ = and_right p₂ r₂ t₁ in
    let t₃ : T r₃ = and_right p₃ r₃ t₂ in
    let inside : x < 2 ^ c = ltb→lt x (2 ^ c) (and_left p₁ r₁ t) in
    let e : ones_in c x ≡ weight x = weight_in c x inside in
    record {
      inside = inside;
      odd = ap (λ (y : ℕ). y % 2) (sym e) ∙ eqb→eq (ones_in c x % 2) 1 (and_left p₂ r₂ t₁);
      no_unit = λ z. T_not (eqb (ones_in c x) 1) (and_left p₃ r₃ t₂) (rw (e ∙ z) (eqb_refl 1));
      new = and_left (absent x xs) (odd_columns c xs) t₃;
      later = and_right (absent x xs) (odd_columns c xs) t₃;
    }

absent_at : (x : ℕ) (ys : List ℕ) → T (absent x ys) → (j : ℕ) → j < length ys → x ≢ get_or ys j 0
absent_at x [] t j h e = absurd (omega arith)
absent_at x (y ∷ ys) t zero h e = T_not (eqb x y) (and_left (not (eqb x y)) (absent x ys) t) (rw e (eqb_refl y))
absent_at x (y ∷ ys) t (suc j) h e = absent_at x ys (and_right (not (eqb x y)) (absent x ys) t) j (omega arith) e

module _ (c : ℕ) where
  at : (P : ℕ → Type 0) → ((x : ℕ) (xs : List ℕ) → Tested c x xs → P x) → (cols : List ℕ) → T (odd_columns c cols)
      → (i : ℕ) → i < length cols → P (get_or cols i 0)
  at P f [] t i h = absurd (omega arith)
  at P f (x ∷ xs) t zero h = f x xs (tested c x xs t)
  at P f (x ∷ xs) t (suc i) h = at P f xs (tested c x xs t).later i (omega arith)

  different : (cols : List ℕ) → T (odd_columns c cols) → (i j : ℕ) → i < length cols → j < length cols → get_or cols i 0 ≡ get_or cols j 0 → i ≡ j
  different [] t i j h k e = absurd (omega arith)
  different (x ∷ xs) t zero zero h k e = refl
  different (x ∷ xs) t zero (suc j) h k e = absurd (absent_at x xs (tested c x xs t).new j (omega arith) e)
  different (x ∷ xs) t (suc i) zero h k e = absurd (absent_at x xs (tested c x xs t).new i (omega arith) (sym e))
  different (x ∷ xs) t (suc i) (suc j) h k e = ap suc (different xs (tested c x xs t).later i j (omega arith) (omega arith) e)

  pub odd-columns : (cols : List ℕ) → T (odd_columns c cols) → OddColumns c cols
  odd-columns cols t = record {
    inside = at (λ x. x < 2 ^ c) (λ x xs s. s.inside) cols t;
    odd = at (λ x. weight x % 2 ≡ 1) (λ x xs s. s.odd) cols t;
    no_unit = at (λ x. weight x ≢ 1) (λ x xs s. s.no_unit) cols t;
    different = different cols t;
  }
