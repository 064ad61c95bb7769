-- Laws of sums of reduced rows: each row that is added keeps its pivot, so that a sum of t rows weighs at least t; and the minimum
-- distance is that of the reduced rows. Assumes nothing.
use mathlib.Core.Path.{◌≡◌, sym, ap, ap₂, ◌∙◌}
use mathlib.Core.List.{List, [], ◌∷◌, map}
use Prim.Native.Nat.{ℕ, zero, suc, ◌+◌, ◌/◌, ◌^◌, ◌≤◌, ◌<◌, suc-le-suc}
use native.Mathlib.Decide.{ℕ_discrete}
use native.Mathlib.Omega.{arith}
use lib.ListN.{length, get_or}
use lib.Count.{ones_step}
use Rattle.coding.specs.Lists.{tabulate, total}
use Rattle.coding.specs.Word.{◌⊕◌, bit, weight, parity}
use Rattle.coding.specs.Matrix.{encode, Inside, Independent, SameCode}
use Rattle.coding.specs.Weight.{dmin}
use Rattle.coding.specs.Reduced.{Echelon}
use Rattle.coding.proofs.ListLaws.{map_same, tabulate-map, tabulate_same}
use Rattle.coding.proofs.WordLaws.{bit-lt, bit_xor, bit-half, bit_zeroth, bit-pow-other, half_lt}
use Rattle.coding.proofs.WeightLaws.{weight-zero, weight_less, weight_none, parity-pow}
use Rattle.coding.proofs.CheckLaws.{encode-place, column_unit}
use Rattle.coding.proofs.DistanceLaws.{dmin-least, dmin_has}

-- a weight is the total of the places
weight-total : (k u : ℕ) → u < 2 ^ k → total (tabulate (bit u) k) ≡ weight u
weight-total zero u h = let e : u ≡ 0 = omega arith in sym weight-zero ∙ ap weight (sym e)
weight-total (suc k) u h =
    ap₂ ◌+◌ (bit_zeroth u) (ap total (tabulate_same (λ i. bit u (suc i)) (bit (u / 2)) k (λ i _. bit-half u i)) ∙ weight-total k (u / 2) (half_lt k h))
    ∙ sym (ones_step u)

-- the ones at some different places are no more than all
some_places : (ps : List ℕ) (w : ℕ) → ((i j : ℕ) → i < j → j < length ps → get_or ps i 0 < get_or ps j 0) → total (map (bit w) ps) ≤ weight w
some_places [] w rise = omega arith
some_places (p ∷ ps) w rise = go (λ v. some_places ps v later) (ℕ_discrete (bit w p) 1)
  where
    later : (i j : ℕ) → i < j → j < length ps → get_or ps i 0 < get_or ps j 0
    later i j h k = rise (suc i) (suc j) (suc-le-suc h) (suc-le-suc k)

    other : (i : ℕ) → i < length ps → bit (w ⊕ 2 ^ p) (get_or ps i 0) ≡ bit w (get_or ps i 0)
    other i h =
        let q = get_or ps i 0 in
        let ne : bit (2 ^ p) q ≡ 0 = bit-pow-other p q (λ e. absurd (omega (arith, rise 0 (suc i) (omega arith) (suc-le-suc h), e))) in
        bit_xor w (2 ^ p) q ∙ omega (arith, ne, bit-lt w q)

    same : total (map (bit w) ps) ≡ total (map (bit (w ⊕ 2 ^ p)) ps)
    same = ap total (map_same (bit w) (bit (w ⊕ 2 ^ p)) ps (λ i h. sym (other i h)))

    go : ((v : ℕ) → total (map (bit v) ps) ≤ weight v) → Dec (bit w p ≡ 1) → total (map (bit w) (p ∷ ps)) ≤ weight w
    go rest (yes e) = omega (arith, e, weight_less w p e, rest (w ⊕ 2 ^ p), same)
    go rest (no ne) = omega (arith, bit-lt w p, rest w)

module _ (rows pivots : List ℕ) (E : Echelon rows pivots) where
  -- a sum has at a pivot the place of the message that selects its row
  at_pivot : (u i : ℕ) → i < length pivots → bit u i ≡ bit (encode rows u) (get_or pivots i 0)
  at_pivot u i h =
      let k : i < length rows = omega (arith, E.count) in
      let q = get_or pivots i 0 in
      sym (encode-place rows u q ∙ ap (parity u) (column_unit rows i q k (λ j l ne. E.clear j i l k ne) (E.leads i k).one) ∙ parity-pow u i)

  pub rows_weigh : (u : ℕ) → u < 2 ^ length rows → weight u ≤ weight (encode rows u)
  rows_weigh u h =
      let w = encode rows u in
      let e : total (tabulate (bit u) (length pivots)) ≡ total (map (bit w) pivots) = ap total (tabulate-map (bit u) (bit w) pivots (at_pivot u)) in
      omega (arith, weight-total (length pivots) u (rw E.count h), some_places pivots w (λ i j a b. E.rise i j a (rw E.count at b)), e)

  pub echelon-independent : Independent rows
  echelon-independent u h z = weight_none u (omega (arith, rows_weigh u h, ap weight z, weight-zero))

-- two matrices of one code have the same minimum distance
pub dmin_same : (n : ℕ) (rs ts : List ℕ) → Inside n rs → Inside n ts → Independent rs → Independent ts → 1 ≤ length rs → 1 ≤ length ts
    → SameCode rs ts → dmin rs ≡ dmin ts
dmin_same n rs ts f g a b h k S =
    let (v, c, ne, e) = dmin_has n rs f a h in
    let (w, d, nd, l) = dmin_has n ts g b k in
    omega (arith, dmin-least n ts g b k v ((S v).0 c) ne, dmin-least n rs f a h w ((S w).1 d) nd, e, l)
