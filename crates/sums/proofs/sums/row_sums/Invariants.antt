-- The first i slots are the row sums.
use Rattle.std.proofs.Common.{map, take}
use Rattle.coding.specs.Matrix.{encode}
use Rattle.coding.proofs.LoopLaws.{Over}
use Rattle.sums.proofs.sums.row_sums.Given as goal

abbrev pub invariant-loop-i : goal.invariant-loop-i
invariant-loop-i l = Over (map (encode l.rows) (take l.m l.words)) l.initial.out l.i l.out
