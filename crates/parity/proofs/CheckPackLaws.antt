-- Laws of the loop that reads the check rows off a table by place: each place that is no pivot gives the next one, and they stand in front of zeros.
use mathlib.Core.Path.{◌≡◌, refl, sym, ap, ap₂, ◌∙◌}
use mathlib.Core.List.{List, [], ◌∷◌, ◌++◌, map}
use mathlib.Core.Bool.{Bool}
use Prim.Native.Nat.{ℕ, zero, suc, ◌+◌, ◌*◌, ◌%◌, ◌^◌, ◌≤◌, ◌<◌, suc-le-suc}
use native.Mathlib.Nat.{zero-add, add-zero, add-suc, suc-add}
use native.Mathlib.Numerals.{add-one}
use native.Mathlib.Omega.{arith}
use lib.Dec.{eqb, eqb-suc-zero}
use lib.ListN.{length, get_or, take, set, length-map, length-replicate}
use lib.Seq.{length-take-le, get_or-take}
use Rattle.std.specs.List.{filter, enumerate_from, range_with_len}
use Rattle.std.proofs.lemmas.List.{drop-replicate}
use Rattle.std.proofs.lemmas.Grind.{get_or_default_zero}
use Rattle.std.proofs.lemmas.List.FromFn.{length-enumerate_from, get_or-enumerate_from}
use Rattle.coding.specs.Lists.{zeros, padded}
use Rattle.coding.specs.Word.{◌⊕◌}
use Rattle.coding.specs.Reduce.{frees_from}
use Rattle.coding.specs.Check.{column, check}
use Rattle.coding.proofs.LoopLaws.{Over, over-map_step, over_end}
use Rattle.coding.proofs.MachineLaws.{shl_one}
use Rattle.coding.proofs.CompactLaws.{frees_from_lem}
use Rattle.words.specs.Limits.{max_checks}

-- place q is no pivot
abbrev pub is_free : List ℕ → ℕ → Bool
is_free table q = eqb (get_or table q 0) 0

kept_at : (table : List ℕ) (p x : ℕ) (l : List ℕ) → get_or table p 0 ≡ x → filter (is_free table) (range_with_len (suc p) (length l)) ≡ frees_from (suc p) l
    → filter (is_free table) (range_with_len p (length (x ∷ l))) ≡ frees_from p (x ∷ l)
kept_at table p zero l e rest = rw (add-one, e) (ap (λ (m : List ℕ). p ∷ m) rest)
kept_at table p (suc x) l e rest = rw (add-one, e, eqb-suc-zero) rest

kept_from : (table : List ℕ) (p : ℕ) (l : List ℕ) → ((i : ℕ) → i < length l → get_or table (p + i) 0 ≡ get_or l i 0)
    → filter (is_free table) (range_with_len p (length l)) ≡ frees_from p l
kept_from table p [] f = refl
kept_from table p (x ∷ l) f =
    kept_at table p x l (rw add-zero at (f 0 (omega arith)))
    (kept_from table (suc p) l (λ i h. rw (suc-add p i, ← add-suc p i) (f (suc i) (suc-le-suc h))))

-- the places below n that are no pivot
abbrev pub frees_below : List ℕ → ℕ → List ℕ
frees_below table n = frees_from 0 (take n table)

places_kept : (table : List ℕ) (n : ℕ) → n ≤ length table → filter (is_free table) (range_with_len 0 n) ≡ frees_below table n
places_kept table n h =
    let size : length (take n table) ≡ n = length-take-le n table h in
    rw size at (kept_from table 0 (take n table) (λ i k. rw (zero-add i) (sym (get_or-take n table i 0 (omega (arith, size, k))))))

-- all are listed
pub places_all : (table : List ℕ) (n : ℕ) → n ≤ length table
    → length (enumerate_from 0 (filter (is_free table) (range_with_len 0 n))) ≡ length (frees_below table n)
places_all table n h = length-enumerate_from 0 (filter (is_free table) (range_with_len 0 n)) ∙ ap length (places_kept table n h)

-- the next place comes with its index
pub place_turn : (table : List ℕ) (n i j q : ℕ) → n ≤ length table
    → (i < length (enumerate_from 0 (filter (is_free table) (range_with_len 0 n))))
    × ((j, q) ≡ get_or (enumerate_from 0 (filter (is_free table) (range_with_len 0 n))) i (j, q))
    → (i < length (frees_below table n)) × (j ≡ i) × (q ≡ get_or (frees_below table n) i 0) × (q < n)
place_turn table n i j q le (h, e) =
    let items = filter (is_free table) (range_with_len 0 n) in
    let kept : items ≡ frees_below table n = places_kept table n le in
    let l : i < length items = rw (length-enumerate_from 0 items) at h in
    let is = e ∙ get_or-enumerate_from 0 items i (j, q) l in
    let more : i < length (frees_below table n) = rw kept at l in
    let at : q ≡ get_or (frees_below table n) i 0
    = ap (λ (p : ℕ × ℕ). p.1) is ∙ get_or_default_zero items i q l ∙ ap (λ (t : List ℕ). get_or t i 0) kept in
    let size : length (take n table) ≡ n = length-take-le n table le in
    let below : get_or (frees_below table n) i 0 < n
    = frees_from_lem (λ x. x < n) 0 (take n table) (λ x k z. omega (arith, size, k)) i more in
    (more, ap (λ (p : ℕ × ℕ). p.0) is ∙ zero-add i, at, omega (arith, at, below))

-- the check rows of the first i of them stand in front of zeros
abbrev pub Listed : List ℕ → ℕ → ℕ → List ℕ → Type 0
Listed table n i checks = Over (map (check table) (frees_below table n)) (zeros max_checks) i checks

module _ (table : List ℕ) (n : ℕ) {i : ℕ} {checks : List ℕ} (L : Listed table n i checks) where
  pub listed_step : (q v : ℕ) → i < length (frees_below table n) → length (frees_below table n) ≤ max_checks → q < 32
      → q ≡ get_or (frees_below table n) i 0 → v ≡ column table q → Listed table n (i + 1) (set checks i ((1 * 2 ^ q) % 2 ^ 32 ⊕ v))
  listed_step q v h few lt at k =
      let row : (1 * 2 ^ q) % 2 ^ 32 ⊕ v ≡ check table q = ap₂ ◌⊕◌ (shl_one q 32 lt) k in
      over-map_step (check table) (frees_below table n) L _ h (rw (length-replicate {A = ℕ} max_checks 0) (omega (arith, h, few))) (row ∙ ap (check table) at)

  pub listed_end : i ≡ length (frees_below table n) → checks ≡ padded max_checks (map (check table) (frees_below table n))
  listed_end e =
      let rows = map (check table) (frees_below table n) in
      over_end L (e ∙ sym (length-map (frees_below table n) (check table))) ∙ ap (λ (l : List ℕ). rows ++ l) (drop-replicate _ max_checks 0)
