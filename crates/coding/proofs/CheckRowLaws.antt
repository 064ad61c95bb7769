-- The check rows of a matrix are those of 01, part 2: a 1 at the own place, the reduced rows' values at the pivots, and nothing else;
-- and a word is a codeword exactly when its syndrome is 0. Assumes nothing.
use mathlib.Core.Logic.{◌↔◌, ◌≢◌}
use mathlib.Core.Path.{◌≡◌, ap, ◌∙◌}
use mathlib.Core.List.{List, [], ◌∷◌}
use Prim.Native.Nat.{ℕ, zero, suc, ◌+◌, ◌%◌, ◌^◌, ◌<◌}
use native.Mathlib.Nat.{zero-add, le_of_suc-le-suc}
use native.Mathlib.Omega.{arith}
use lib.ListN.{length, get_or}
use lib.Pow.{pow-lt}
use lib.Bits.{xor_lt}
use Rattle.coding.specs.Word.{bit}
use Rattle.coding.specs.Matrix.{Inside, Codeword}
use Rattle.coding.specs.Reduce.{reduce, rows_of, pivots_from, frees_from, reduced_rows, pivots}
use Rattle.coding.specs.Check.{column, check, checks, frees, FreePlaces, CheckRow, syndrome}
use Rattle.coding.proofs.WordLaws.{bit-lt, bit_of_zero, bit_xor, bit-pow, bit-pow-other}
use Rattle.coding.proofs.ListLaws.{get_d_map}
use Rattle.coding.proofs.CheckLaws.{places-lt, places-bit}
use Rattle.coding.proofs.CompactLaws.{rows_count, rows_from, frees_from_lem}
use Rattle.coding.proofs.ReduceLaws.{whole, codeword_kept, kept_codeword}
use Rattle.coding.proofs.PivotLaws.{syndrome_kept, kept_syndrome}
use Rattle.coding.proofs.EchelonLaws.{reduced_rows_form}

frees_rise : (p : ℕ) (B : List ℕ) (i j : ℕ) → i < j → j < length (frees_from p B) → get_or (frees_from p B) i 0 < get_or (frees_from p B) j 0
frees_rise p [] i j l h = absurd (omega arith)
frees_rise p (suc r ∷ B) i j l h = frees_rise (suc p) B i j l h
frees_rise p (zero ∷ B) i zero l h = absurd (omega arith)
frees_rise p (zero ∷ B) zero (suc j) l h = frees_from_lem (λ q. p < q) (suc p) B (λ q k e. omega arith) j (le_of_suc-le-suc h)
frees_rise p (zero ∷ B) (suc i) (suc j) l h = frees_rise (suc p) B i j (le_of_suc-le-suc l) (le_of_suc-le-suc h)

-- 01, part 2: the places that are no pivot, in rising order
pub free_places : (n : ℕ) (rs : List ℕ) → Inside n rs → FreePlaces n (pivots n rs) (frees n rs)
free_places n rs fits = record {
  all = ap (λ (x : ℕ). x + length (frees n rs)) count ∙ rows_count 0 B ∙ size;
  inside = frees_from_lem (λ q. q < n) 0 B (λ q l z. rw (zero-add q) (rw size at l));
  no_pivot = λ i j hi. frees_from_lem (λ q. get_or (pivots n rs) i 0 ≢ q) 0 B
      (λ q l z. rw (zero-add q) (rows_from (λ r p. p ≢ q) 0 B
      (λ p k ne. rw (zero-add p) (λ e. ne (ap (λ (x : ℕ). get_or B x 0) e ∙ z))) i (rw count at hi))) j;
  rise = frees_rise 0 B;
}
  where
    B : List ℕ
    B = reduce n rs

    size : length (reduce n rs) ≡ n
    size = (whole n rs fits).reduced.size

    count : length (pivots n rs) ≡ length (reduced_rows n rs)
    count = (reduced_rows_form n rs fits).echelon.count

module _ (B : List ℕ) (q : ℕ) (h : q < length B) (free : get_or B q 0 ≡ 0) where
  at : (p : ℕ) → p < length B → bit (check B q) p ≡ (bit (2 ^ q) p + bit (get_or B p 0) q) % 2
  at p l =
      bit_xor (2 ^ q) (column B q) p ∙ ap (λ (x : ℕ). (bit (2 ^ q) p + x) % 2) (places-bit (λ r. bit r q) (λ r. bit-lt r q) B p l)

  own_place : bit (check B q) q ≡ 1
  own_place = omega (arith, at q h, bit-pow q, ap (λ (r : ℕ). bit r q) free ∙ bit_of_zero q)

  other_place : (p : ℕ) → p < length B → p ≢ q → bit (check B q) p ≡ bit (get_or B p 0) q
  other_place p l ne = omega (arith, at p l, bit-pow-other q p ne, bit-lt (get_or B p 0) q)

  check_is : CheckRow (length B) (rows_of B) (pivots_from 0 B) (frees_from 0 B) q (check B q)
  check_is = record {
    own = own_place;
    at_pivots = rows_from (λ r p. bit (check B q) p ≡ bit r q) 0 B
        (λ p l ne. rw (zero-add p) (other_place p l (λ e. ne (ap (λ (x : ℕ). get_or B x 0) e ∙ free))));
    at_others = frees_from_lem (λ p. p ≢ q → bit (check B q) p ≡ 0) 0 B
        (λ p l z. rw (zero-add p) (λ ne. other_place p l ne ∙ ap (λ (r : ℕ). bit r q) z ∙ bit_of_zero q));
    inside = xor_lt (length B) (2 ^ q) (column B q) (pow-lt h) (places-lt (λ r. bit r q) (λ r. bit-lt r q) B);
  }

pub check_rows : (n : ℕ) (rs : List ℕ) → Inside n rs → (j : ℕ) → j < length (frees n rs)
    → CheckRow n (reduced_rows n rs) (pivots n rs) (frees n rs) (get_or (frees n rs) j 0) (get_or (checks n rs) j 0)
check_rows n rs fits j h =
    let B = reduce n rs in
    let size : length (reduce n rs) ≡ n = (whole n rs fits).reduced.size in
    let C : ℕ → Type 0 = λ q. CheckRow n (reduced_rows n rs) (pivots n rs) (frees n rs) q (check B q) in
    rw (get_d_map (check B) (frees n rs) j h)
    (frees_from_lem C 0 B (λ q l z. rw (zero-add q) (rw size at (check_is B q l z))) j h)

module _ (n : ℕ) (rs : List ℕ) (fits : Inside n rs) where
  -- 01, part 2: a word of n places is a codeword exactly when its syndrome is 0
  pub syndrome-codeword : (w : ℕ) → w < 2 ^ n → (syndrome (checks n rs) w ≡ 0) ↔ Codeword rs w
  syndrome-codeword w h = (
    λ e. kept_codeword n rs fits w (syndrome_kept n (reduce n rs) (whole n rs fits).reduced w h e),
    λ c. kept_syndrome (reduce n rs) w (codeword_kept n rs fits w c),
  )
