-- One place more leaves the whole, and the whole stays below 2 ^ 60.
use Rattle.std.proofs.Common.{◌≡◌, ap, ap₂, ◌∙◌, ℕ, ◌+◌, ◌*◌, ◌/◌, ◌%◌, ◌^◌, ◌<◌, get_or, arith}
use native.Mathlib.Nat.{div-eq_of_lt, lt_of_le_of_lt}
use lib.Bits.{bit_and, and_mask}
use lib.Pow.{shr-shr}
use Rattle.coding.specs.Word.{weight, bit}
use Rattle.golay_code.specs.Golay.{golay_checks}
use Rattle.golay.specs.Inner.Lanes.{lanes}
use Rattle.golay.proofs.LaneLaws.{overlap_next, overlap_none}
use Rattle.golay.proofs.NearLaws.{place_words, place-lanes, overlaps-lt}
use Rattle.golay.proofs.nearby.overlaps.Invariants.{left}
use Rattle.golay.proofs.nearby.overlaps.Goals as goal

-- one place more
step : (sum m j : ℕ) → j < 12 → (total : ℕ) → sum + left m j ≡ total → (sum + get_or place_words j 0 * bit_and m 1) + left (m / 2) (j + 1) ≡ total
step sum m j h total e =
    let e' : get_or place_words j 0 * bit_and m 1 ≡ lanes (λ p. bit p j) golay_checks * (m % 2) = ap₂ ◌*◌ (place-lanes j h) (and_mask m 1) in
    omega (arith, e, e', overlap_next j m golay_checks)

-- and the sum stays below 2 ^ 60
step-lt : (s sum m j : ℕ) → s < 2 ^ 12 → j < 12 → sum + left m j ≡ lanes (λ p. weight (bit_and s p)) golay_checks
    → sum + get_or place_words j 0 * bit_and m 1 < 2 ^ 60
step-lt s sum m j r h e = lt_of_le_of_lt (omega (arith, step sum m j h _ e)) (overlaps-lt s r)

pub overflow_add-sum : goal.overflow_add-sum
unfolding place_words
overflow_add-sum c =
    let l = c.loop-lanes in
    omega (arith, step-lt c.args.s l.sum l.m l.lanes-index c.requires (omega arith) l.invariant.1)

pub loop-lanes-preserved : goal.loop-lanes-preserved
unfolding place_words
loop-lanes-preserved c =
    let l = c.loop-lanes in (
      ap (λ (x : ℕ). x / 2) l.invariant.0 ∙ shr-shr c.args.s l.lanes-index 1,
      step l.sum l.m l.lanes-index (omega arith) _ l.invariant.1,
    )

pub returns : goal.returns
returns c =
    let l = c.loop-lanes in
    let end : l.lanes-index ≡ 12 = omega arith in
    let none : l.m ≡ 0 = l.invariant.0 ∙ ap (λ (j : ℕ). c.args.s / 2 ^ j) end ∙ div-eq_of_lt c.requires in
    let rest : left l.m l.lanes-index ≡ 0 = ap (λ (m : ℕ). left m l.lanes-index) none ∙ overlap_none golay_checks l.lanes-index in
    omega (arith, rest, l.invariant.1)
