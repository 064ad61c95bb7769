-- Laws of what is read off the reduced rows by place: its rows and its places that are no pivot, entry by entry, and how many there
-- are of each. Assumes nothing.
use mathlib.Core.Path.{◌≡◌, refl, ap, ◌∙◌}
use mathlib.Core.Logic.{◌≢◌}
use mathlib.Core.List.{List, [], ◌∷◌}
use Prim.Native.Nat.{ℕ, zero, suc, ◌+◌, ◌<◌, suc-le-suc}
use native.Mathlib.Nat.{suc-ne-zero, le_of_suc-le-suc, add-zero, add-suc, suc-add}
use native.Mathlib.Numerals.{add-one}
use native.Mathlib.Omega.{arith}
use lib.ListN.{length, get_or, drop}
use lib.Seq.{drop-cons}
use Rattle.coding.specs.Reduce.{rows_of, pivots_from, frees_from}

-- each entry is a row or stands for a place that is no pivot
pub rows_count : (p : ℕ) (B : List ℕ) → length (rows_of B) + length (frees_from p B) ≡ length B
rows_count p [] = refl
rows_count p (zero ∷ B) = omega (arith, rows_count (suc p) B)
rows_count p (suc r ∷ B) = omega (arith, rows_count (suc p) B)

-- what holds for each nonzero entry and its place, counted from p, holds for each row and its pivot
pub rows_from : (C : ℕ → ℕ → Type 0) (p : ℕ) (B : List ℕ) → ((q : ℕ) → q < length B → get_or B q 0 ≢ 0 → C (get_or B q 0) (p + q))
    → (i : ℕ) → i < length (rows_of B) → C (get_or (rows_of B) i 0) (get_or (pivots_from p B) i 0)
rows_from C p [] f i h = absurd (omega arith)
rows_from C p (zero ∷ B) f i h = rows_from C (suc p) B (λ q l ne. rw (suc-add p q, ← add-suc p q) (f (suc q) (suc-le-suc l) ne)) i h
rows_from C p (suc r ∷ B) f zero h = rw add-zero at (f 0 (omega arith) (suc-ne-zero r))
rows_from C p (suc r ∷ B) f (suc i) h =
    rows_from C (suc p) B (λ q l ne. rw (suc-add p q, ← add-suc p q) (f (suc q) (suc-le-suc l) ne)) i (le_of_suc-le-suc h)

-- and what holds for each place of a zero entry holds for each place that is no pivot
pub frees_from_lem : (C : ℕ → Type 0) (p : ℕ) (B : List ℕ) → ((q : ℕ) → q < length B → get_or B q 0 ≡ 0 → C (p + q))
    → (j : ℕ) → j < length (frees_from p B) → C (get_or (frees_from p B) j 0)
frees_from_lem C p [] f j h = absurd (omega arith)
frees_from_lem C p (zero ∷ B) f zero h = rw add-zero at (f 0 (omega arith) refl)
frees_from_lem C p (zero ∷ B) f (suc j) h =
    frees_from_lem C (suc p) B (λ q l e. rw (suc-add p q, ← add-suc p q) (f (suc q) (suc-le-suc l) e)) j (le_of_suc-le-suc h)
frees_from_lem C p (suc r ∷ B) f j h = frees_from_lem C (suc p) B (λ q l e. rw (suc-add p q, ← add-suc p q) (f (suc q) (suc-le-suc l) e)) j h

-- ---- a loop over the entries, at entry q

module _ (B : List ℕ) (q : ℕ) (h : q < length B) where
  next : drop q B ≡ get_or B q 0 ∷ drop (q + 1) B
  next = rw add-one (drop-cons B q 0 h)

  pub frees_free : get_or B q 0 ≡ 0 → frees_from q (drop q B) ≡ q ∷ frees_from (q + 1) (drop (q + 1) B)
  frees_free e = ap (frees_from q) next ∙ ap (λ (x : ℕ). frees_from q (x ∷ drop (q + 1) B)) e ∙ rw add-one refl

  pub frees_pivot : get_or B q 0 ≢ 0 → frees_from q (drop q B) ≡ frees_from (q + 1) (drop (q + 1) B)
  frees_pivot ne = ap (frees_from q) next ∙ go (get_or B q 0) ne
    where
      go : (x : ℕ) → x ≢ 0 → frees_from q (x ∷ drop (q + 1) B) ≡ frees_from (q + 1) (drop (q + 1) B)
      go zero k = absurd (k refl)
      go (suc x) k = rw add-one refl

  pub rows_free : get_or B q 0 ≡ 0 → rows_of (drop q B) ≡ rows_of (drop (q + 1) B)
  rows_free e = ap rows_of next ∙ ap (λ (x : ℕ). rows_of (x ∷ drop (q + 1) B)) e

  pub rows_pivot : get_or B q 0 ≢ 0 → rows_of (drop q B) ≡ get_or B q 0 ∷ rows_of (drop (q + 1) B)
  rows_pivot ne = ap rows_of next ∙ go (get_or B q 0) ne
    where
      go : (x : ℕ) → x ≢ 0 → rows_of (x ∷ drop (q + 1) B) ≡ x ∷ rows_of (drop (q + 1) B)
      go zero k = absurd (k refl)
      go (suc x) k = refl
