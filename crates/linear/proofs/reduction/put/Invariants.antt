-- The first p entries are those of the wiped list.
use Rattle.coding.specs.Inner.Beside.{wipes}
use Rattle.coding.proofs.LoopLaws.{Over}
use Rattle.linear.proofs.reduction.put.Given as goal

abbrev pub invariant-loop-p : goal.invariant-loop-p
invariant-loop-p l = Over (wipes l.q l.rows l.initial.entries l.x) l.initial.entries l.p l.entries
