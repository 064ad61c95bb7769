-- The sum so far, and the places that are left, make the places in common.
use Rattle.std.proofs.Common.{ℕ, ◌≡◌, ◌+◌, ◌/◌, ◌^◌}
use Rattle.std.specs.Int.Bits.{bit_and}
use Rattle.coding.specs.Word.{weight}
use Rattle.golay_code.specs.Golay.{golay_checks}
use Rattle.golay.specs.Inner.Lanes.{lanes}
use Rattle.golay.proofs.nearby.overlaps.Given as goal

-- what is left of s from place j on, in common with the rows
abbrev pub left : ℕ → ℕ → ℕ
left m j = lanes (λ p. weight (bit_and m (p / 2 ^ j))) golay_checks

abbrev pub invariant-loop-lanes : goal.invariant-loop-lanes
invariant-loop-lanes l =
    (l.m ≡ l.s / 2 ^ l.lanes-index) × (l.sum + left l.m l.lanes-index ≡ lanes (λ p. weight (bit_and l.s p)) golay_checks)
