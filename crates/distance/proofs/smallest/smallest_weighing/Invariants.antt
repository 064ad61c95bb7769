-- The sums of fewer than t rows have been looked at.
use Rattle.std.proofs.Common.{◌+◌, ◌-◌, ◌≤◌, ◌^◌}
use Rattle.distance.specs.Inner.LeastSum.{of_weight}
use Rattle.distance.proofs.LeastSumLaws.{Found}
use Rattle.distance.proofs.smallest.smallest_weighing.Given as goal

abbrev pub invariant-loop-t : goal.invariant-loop-t
invariant-loop-t l = (l.t ≤ l.t-end + 1) × (l.best ≤ 2 ^ 32 - 1) × Found (of_weight l.fn.w) (2 ^ 32 - 1) l.rows l.t l.best
