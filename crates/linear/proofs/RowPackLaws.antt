-- Laws of the loop that lists the rows of a table by place: they are the entries but 0, and stand in front of zeros.
use mathlib.Core.Path.{◌≡◌, refl, ap, ◌∙◌}
use mathlib.Core.List.{List, [], ◌∷◌}
use mathlib.Core.Bool.{Bool, not}
use Prim.Native.Nat.{ℕ, zero, suc, ◌+◌, ◌≤◌, ◌<◌}
use native.Mathlib.Nat.{zero-add}
use native.Mathlib.Numerals.{add-one}
use native.Mathlib.Omega.{arith}
use lib.Dec.{eqb, eqb-suc-zero}
use lib.ListN.{length, get_or, drop, set, drop_of_length-le}
use lib.Seq.{drop-cons}
use Rattle.std.specs.List.{filter, enumerate_from}
use Rattle.std.proofs.lemmas.Grind.{get_or_default_zero}
use Rattle.std.proofs.lemmas.List.FromFn.{length-enumerate_from, get_or-enumerate_from}
use Rattle.coding.specs.Lists.{padded}
use Rattle.coding.specs.Reduce.{rows_of}
use Rattle.coding.proofs.LoopLaws.{Packed, packed_push, packed_end}

abbrev pub is_row : ℕ → Bool
is_row row = not (eqb row 0)

pub rows_kept : (table : List ℕ) → filter is_row table ≡ rows_of table
rows_kept [] = refl
rows_kept (zero ∷ table) = rows_kept table
rows_kept (suc row ∷ table) = rw eqb-suc-zero (ap (λ (l : List ℕ). suc row ∷ l) (rows_kept table))

-- all are listed
pub rows_all : (table : List ℕ) → length (enumerate_from 0 (filter is_row table)) ≡ length (rows_of table)
rows_all table = length-enumerate_from 0 (filter is_row table) ∙ ap length (rows_kept table)

-- the first i of them stand in front of zeros, and the others are still to come
abbrev pub Compacted : List ℕ → ℕ → ℕ → List ℕ → Type 0
Compacted table m i rows = Packed m rows i (drop i (rows_of table)) (rows_of table)

pub compacted_step : (table : List ℕ) (m : ℕ) {i : ℕ} {rows : List ℕ} → Compacted table m i rows → (row : ℕ) → i < length (rows_of table)
    → length (rows_of table) ≤ m → row ≡ get_or (rows_of table) i 0 → Compacted table m (i + 1) (set rows i row)
compacted_step table m {i} {rows} P row h few e =
    let all = rows_of table in
    rw (e, add-one) (rw add-one at (packed_push m rows i (get_or all i 0) (drop (suc i) all) all (rw (drop-cons all i 0 h) at P) few))

-- and all of them do
pub rows_padded : (table : List ℕ) (m : ℕ) {i : ℕ} {rows : List ℕ} → Compacted table m i rows → i ≡ length (rows_of table)
    → length (rows_of table) ≤ m → rows ≡ padded m (rows_of table)
rows_padded table m {i} {rows} P e few =
    let all = rows_of table in
    packed_end m rows i all (rw (drop_of_length-le all {i = i} (omega (arith, e))) at P) (omega (arith, e, few))

-- the next row comes with its index
pub row_turn : (table : List ℕ) (i j row : ℕ)
    → (i < length (enumerate_from 0 (filter is_row table))) × ((j, row) ≡ get_or (enumerate_from 0 (filter is_row table)) i (j, row))
    → (i < length (rows_of table)) × (j ≡ i) × (row ≡ get_or (rows_of table) i 0)
row_turn table i j row (h, e) =
    let l : i < length (filter is_row table) = rw (length-enumerate_from 0 (filter is_row table)) at h in
    let is = e ∙ get_or-enumerate_from 0 (filter is_row table) i (j, row) l in (
      rw (rows_kept table) at l,
      ap (λ (p : ℕ × ℕ). p.0) is ∙ zero-add i,
      ap (λ (p : ℕ × ℕ). p.1) is ∙ get_or_default_zero (filter is_row table) i row l ∙ ap (λ (t : List ℕ). get_or t i 0) (rows_kept table),
    )
