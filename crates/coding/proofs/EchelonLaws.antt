-- The reduced rows of a matrix and their pivots are its reduced row echelon form. Assumes nothing.
use mathlib.Core.Path.{◌≡◌, refl, sym, ap, ◌∙◌, subst}
use mathlib.Core.Logic.{◌≢◌}
use mathlib.Core.List.{List, [], ◌∷◌}
use Prim.Native.Nat.{ℕ, zero, suc, ◌+◌, ◌≤◌, ◌<◌, suc-le-suc}
use native.Mathlib.Nat.{le_of_suc-le-suc, zero-add}
use native.Mathlib.Decide.{ℕ_discrete, dec_le}
use native.Mathlib.Omega.{arith}
use lib.ListN.{length, get_or, get_or-eq_default}
use Rattle.coding.specs.Word.{bit}
use Rattle.coding.specs.Matrix.{encode, Codeword, Inside}
use Rattle.coding.specs.Reduced.{Leads, Echelon, ReducedForm, ByPivot}
use Rattle.coding.specs.Reduce.{rows_of, pivots_from, reduce, reduced_rows, pivots}
use Rattle.coding.proofs.MatrixLaws.{encode-xor, encode-zero, encode_kept, encode_in, codeword-zero, codeword-xor, row_codeword}
use Rattle.coding.proofs.PivotLaws.{ByPlace, row_kept}
use Rattle.coding.proofs.ReduceLaws.{whole, codeword_kept, kept_codeword}
use Rattle.coding.proofs.CompactLaws.{rows_from}

-- there is a pivot for each row
pivots-count : (p : ℕ) (B : List ℕ) → length (pivots_from p B) ≡ length (rows_of B)
pivots-count p [] = refl
pivots-count p (zero ∷ B) = pivots-count (suc p) B
pivots-count p (suc r ∷ B) = ap suc (pivots-count (suc p) B)

-- the pivots rise
pivots_rise : (p : ℕ) (B : List ℕ) (i j : ℕ) → i < j → j < length (rows_of B) → get_or (pivots_from p B) i 0 < get_or (pivots_from p B) j 0
pivots_rise p [] i j l h = absurd (omega arith)
pivots_rise p (zero ∷ B) i j l h = pivots_rise (suc p) B i j l h
pivots_rise p (suc r ∷ B) i zero l h = absurd (omega arith)
pivots_rise p (suc r ∷ B) zero (suc j) l h = rows_from (λ x q. p < q) (suc p) B (λ q k ne. omega arith) j (le_of_suc-le-suc h)
pivots_rise p (suc r ∷ B) (suc i) (suc j) l h = pivots_rise (suc p) B i j (le_of_suc-le-suc l) (le_of_suc-le-suc h)

-- what holds for each row and for 0 holds for each entry by place
entries_in : (C : ℕ → Type 0) → C 0 → (B : List ℕ) → ((i : ℕ) → i < length (rows_of B) → C (get_or (rows_of B) i 0))
    → (p : ℕ) → p < length B → C (get_or B p 0)
entries_in C z [] f p h = absurd (omega arith)
entries_in C z (zero ∷ B) f zero h = z
entries_in C z (zero ∷ B) f (suc p) h = entries_in C z B f p (le_of_suc-le-suc h)
entries_in C z (suc r ∷ B) f zero h = f 0 (omega arith)
entries_in C z (suc r ∷ B) f (suc p) h = entries_in C z B (λ i l. f (suc i) (suc-le-suc l)) p (le_of_suc-le-suc h)

module _ (n : ℕ) (B : List ℕ) (R : ByPlace n B) where
  -- what holds for each nonzero entry and its place holds for each row and its pivot
  rows_in : (C : ℕ → ℕ → Type 0) → ((q : ℕ) → q < length B → get_or B q 0 ≢ 0 → C (get_or B q 0) q)
      → (i : ℕ) → i < length (rows_of B) → C (get_or (rows_of B) i 0) (get_or (pivots_from 0 B) i 0)
  rows_in C f = rows_from C 0 B (λ q h ne. rw zero-add (f q h ne))

  -- different rows have different pivots
  pivots-apart : (i j : ℕ) → i < length (rows_of B) → j < length (rows_of B) → i ≢ j → get_or (pivots_from 0 B) i 0 ≢ get_or (pivots_from 0 B) j 0
  pivots-apart i j h k ne = go (dec_le i j)
    where
      go : Dec (i ≤ j) → get_or (pivots_from 0 B) i 0 ≢ get_or (pivots_from 0 B) j 0
      go (yes l) e = omega (arith, pivots_rise 0 B i j (omega arith) k)
      go (no l) e = omega (arith, pivots_rise 0 B j i (omega arith) h)

  -- the rows and their pivots have the shape of 01, part 1
  rows_of-echelon : Echelon (rows_of B) (pivots_from 0 B)
  rows_of-echelon = record {
    count = pivots-count 0 B;
    leads = rows_in Leads (λ p h ne. record { one = R.lead p h ne; none_before = λ j l. R.leftmost p j h l });
    rise = pivots_rise 0 B;
    clear = λ i j h k ne. rows_in (λ x p. p ≢ get_or (pivots_from 0 B) j 0 → bit x (get_or (pivots_from 0 B) j 0) ≡ 0)
        (λ p hp np. rows_in (λ y q. p ≢ q → bit (get_or B p 0) q ≡ 0) (λ q hq nq d. R.clear p q hp hq d nq) j k) i h
        (pivots-apart i j h k ne);
  }

  -- a sum of the rows is kept by the rows by place
  codeword-rows_of : (w : ℕ) → Codeword (rows_of B) w → encode B w ≡ w
  codeword-rows_of w (u, h, e) =
      ap (encode B) e
      ∙ encode_kept (encode B) (encode-zero B) (encode-xor B) (rows_of B) (rows_in (λ x q. encode B x ≡ x) (λ q l ne. row_kept n B R q l)) u
      ∙ sym e

  -- a word that the rows by place keep is a sum of the rows
  rows_of-codeword : (w : ℕ) → encode B w ≡ w → Codeword (rows_of B) w
  rows_of-codeword w e =
      subst (Codeword (rows_of B)) e
      (encode_in (Codeword (rows_of B)) (codeword-zero (rows_of B)) (codeword-xor (rows_of B)) B
      (entries_in (Codeword (rows_of B)) (codeword-zero (rows_of B)) B (row_codeword (rows_of B))) w)

-- a place with an entry is the pivot of a row
pivot_there : (p : ℕ) (B : List ℕ) (q : ℕ) → q < length B → get_or B q 0 ≢ 0
    → (i : ℕ) × (i < length (rows_of B)) × (get_or (pivots_from p B) i 0 ≡ p + q)
pivot_there p [] q h ne = absurd (omega arith)
pivot_there p (zero ∷ B) zero h ne = absurd (ne refl)
pivot_there p (zero ∷ B) (suc q) h ne = let (i, l, e) = pivot_there (suc p) B q (le_of_suc-le-suc h) ne in (i, l, omega (arith, e))
pivot_there p (suc r ∷ B) zero h ne = (0, omega arith, omega arith)
pivot_there p (suc r ∷ B) (suc q) h ne =
    let (i, l, e) = pivot_there (suc p) B q (le_of_suc-le-suc h) ne in (suc i, suc-le-suc l, omega (arith, e))

-- such a list has each row at its pivot, and 0 elsewhere
pub by_pivot : (B : List ℕ) → ByPivot (length B) (rows_of B) (pivots_from 0 B) B
by_pivot B = record {
  size = refl;
  at_pivots = rows_from (λ r p. get_or B p 0 ≡ r) 0 B (λ q l ne. rw (zero-add q) refl);
  elsewhere = λ p none. go p none (ℕ_discrete (get_or B p 0) 0) (dec_le (suc p) (length B));
}
  where
    go : (p : ℕ) → ((i : ℕ) → i < length (rows_of B) → get_or (pivots_from 0 B) i 0 ≢ p) → Dec (get_or B p 0 ≡ 0) → Dec (p < length B) → get_or B p 0 ≡ 0
    go p none (yes e) l = e
    go p none (no ne) (yes l) = let (i, h, e) = pivot_there 0 B p l ne in absurd (none i h (rw zero-add at e))
    go p none (no ne) (no l) = get_or-eq_default B 0 (omega arith)

-- 01, part 1: the reduced rows and the pivots are the reduced row echelon form of the matrix
pub reduced_rows_form : (n : ℕ) (rs : List ℕ) → Inside n rs → ReducedForm rs (reduced_rows n rs) (pivots n rs)
reduced_rows_form n rs fits = record {
  echelon = rows_of-echelon n (reduce n rs) (whole n rs fits).reduced;
  same_span = λ w. (
    λ c. rows_of-codeword n (reduce n rs) (whole n rs fits).reduced w (codeword_kept n rs fits w c),
    λ c. kept_codeword n rs fits w (codeword-rows_of n (reduce n rs) (whole n rs fits).reduced w c),
  );
}
