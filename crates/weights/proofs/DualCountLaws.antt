-- The weight counts of an accepted matrix from a walk over the sums of its check rows.
use mathlib.Core.Path.{◌≡◌, sym, ap, ◌∙◌}
use mathlib.Core.List.{List}
use Prim.Native.Nat.{ℕ, suc, ◌+◌, ◌-◌, ◌*◌, ◌/◌, ◌^◌, ◌≤◌, ◌<◌}
use native.Mathlib.Nat.{le_trans, mul-div_right}
use native.Mathlib.Decide.{dec_le}
use native.Mathlib.Omega.{arith}
use lib.Dec.{eqb}
use lib.ListN.{length, get_or, length-map, get_or-eq_default}
use lib.Pow.{pow_mono, pow_pos}
use Rattle.coding.specs.Word.{weight}
use Rattle.coding.specs.Matrix.{encode}
use Rattle.coding.specs.Reduce.{reduce}
use Rattle.coding.specs.Check.{check, frees, checks}
use Rattle.coding.specs.Weight.{count, weight_count}
use Rattle.coding.specs.Dual.{sums_of_weight, overlaps, overlap_sum}
use Rattle.coding.proofs.CountLaws.{count-le}
use Rattle.coding.proofs.WeightCountLaws.{weight_count_messages}
use Rattle.coding.proofs.SumLaws.{sum_same}
use Rattle.coding.proofs.DualLaws.{macwilliams}
use Rattle.words.specs.Accepted.{Accepted}
use Rattle.words.proofs.CodeLaws.{frees_are}
use Rattle.walk.specs.Walked.{Walked}
use Rattle.weights.specs.Inner.Overlap.{part_sum, slots}
use Rattle.walk.specs.declared.walk.Walk.{Walk}
use Rattle.weights.proofs.WeightSlotLaws.{slots_at, slots_same}
use Rattle.weights.proofs.OverlapSumLaws.{part_end}

module _ (n k : ℕ) (rows : List ℕ) (A : Accepted n k rows) where
  pub checks_long : length (checks n rows) + k ≡ n
  checks_long = omega (arith, length-map (frees n rows) (check (reduce n rows)), frees_are n k rows A)

  pub checks_few : length (checks n rows) ≤ 12
  checks_few = omega (arith, checks_long, A.range.checks)

  count_fits : (j : ℕ) → weight_count n rows j < 2 ^ 32
  count_fits j =
      let c : count (λ u. eqb (weight (encode rows u)) j) (2 ^ length rows) ≤ 2 ^ 20 =
      le_trans (count-le (λ u. eqb (weight (encode rows u)) j) (2 ^ length rows))
      (pow_mono {i = length rows} {j = 20} (omega (arith, A.count, A.range.rows))) in
      omega (arith, weight_count_messages n rows A.inside A.independent j)

  module _ (w : Walk) (W : Walked (checks n rows) (2 ^ length (checks n rows)) w) where
    -- no weight has more than all sums
    pub walk_few : (i : ℕ) → get_or w.counts i 0 ≤ 4096
    walk_few i = go (dec_le (suc i) 33)
      where
        go : Dec (i < 33) → get_or w.counts i 0 ≤ 4096
        go (yes l) =
            let c : count (λ u. eqb (weight (encode (checks n rows) u)) i) (2 ^ length (checks n rows)) ≤ 2 ^ 12 =
            le_trans (count-le (λ u. eqb (weight (encode (checks n rows) u)) i) (2 ^ length (checks n rows)))
            (pow_mono {i = length (checks n rows)} {j = 12} checks_few) in
            omega (arith, W.counts i l)
        go (no l) = let z : get_or w.counts i 0 ≡ 0 = get_or-eq_default w.counts 0 (omega (arith, W.size)) in omega arith

    walk_overlaps : (c j : ℕ) → part_sum c n (λ i. get_or w.counts i 0) (suc n) j ≡ overlap_sum c n (checks n rows) j
    unfolding sums_of_weight
    walk_overlaps c j =
        part_end c n (λ i. get_or w.counts i 0) j
        ∙ sum_same _ _ (suc n) (λ i l. ap (λ (x : ℕ). x * overlaps c (n - i) i j) (W.counts i (omega (arith, A.range.places))))

    walk_counts : (j : ℕ) → part_sum 0 n (λ i. get_or w.counts i 0) (suc n) j
        ≡ 2 ^ length (checks n rows) * weight_count n rows j + part_sum 1 n (λ i. get_or w.counts i 0) (suc n) j
    walk_counts j =
        walk_overlaps 0 j ∙ sym (macwilliams n rows A.inside j)
        ∙ ap (λ (x : ℕ). 2 ^ length (checks n rows) * weight_count n rows j + x) (sym (walk_overlaps 1 j))

    module _ {even odd : List ℕ} (e : even ≡ slots (part_sum 0 n (λ i. get_or w.counts i 0) (suc n)))
        (o : odd ≡ slots (part_sum 1 n (λ i. get_or w.counts i 0) (suc n))) where
      at : (j : ℕ) → j < 33 → get_or even j 0 ≡ 2 ^ length (checks n rows) * weight_count n rows j + get_or odd j 0
      at j h =
          ap (λ (l : List ℕ). get_or l j 0) e ∙ slots_at _ j h ∙ walk_counts j
          ∙ ap (λ (x : ℕ). 2 ^ length (checks n rows) * weight_count n rows j + x) (sym (ap (λ (l : List ℕ). get_or l j 0) o ∙ slots_at _ j h))

      quotient : (j : ℕ) → j < 33 → (get_or even j 0 - get_or odd j 0) / 2 ^ length (checks n rows) ≡ weight_count n rows j
      quotient j h =
          let d : get_or even j 0 - get_or odd j 0 ≡ 2 ^ length (checks n rows) * weight_count n rows j = omega (arith, at j h) in
          ap (λ (x : ℕ). x / 2 ^ length (checks n rows)) d ∙ mul-div_right (weight_count n rows j) (pow_pos (length (checks n rows)))

      pub quotient_fits : (j : ℕ) → j < 33 → (get_or odd j 0 ≤ get_or even j 0) × ((get_or even j 0 - get_or odd j 0) / 2 ^ length (checks n rows) < 2 ^ 32)
      quotient_fits j h = (omega (arith, at j h), rw (quotient j h) (count_fits j))

      pub quotients_are : slots (λ j. (get_or even j 0 - get_or odd j 0) / 2 ^ length (checks n rows)) ≡ slots (weight_count n rows)
      quotients_are = slots_same _ _ quotient
