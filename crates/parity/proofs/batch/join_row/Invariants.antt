-- `parity::batch::join_row`: the first v entries have their digit.
use Rattle.std.proofs.Common.{length}
use Rattle.coding.specs.Lists.{tabulate}
use Rattle.parity.specs.Inner.Joined.{joined_by}
use Rattle.coding.proofs.LoopLaws.{Over}
use Rattle.parity.proofs.batch.join_row.Given as goal

abbrev pub invariant-loop-v : goal.invariant-loop-v
invariant-loop-v l = Over (tabulate (joined_by l.row l.words l.initial.list) (length l.initial.list)) l.initial.list l.v l.list
