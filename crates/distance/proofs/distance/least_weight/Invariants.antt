-- The sums of fewer than t rows have been weighed.
use Rattle.std.proofs.Common.{◌≤◌}
use Rattle.coding.specs.Word.{weight}
use Rattle.distance.proofs.LeastSumLaws.{Found}
use Rattle.distance.proofs.distance.least_weight.Given as goal

abbrev pub invariant-loop-t : goal.invariant-loop-t
invariant-loop-t l = (l.best ≤ 33) × Found weight 33 l.rows l.t l.best
