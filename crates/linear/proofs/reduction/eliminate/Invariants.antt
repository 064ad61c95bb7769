-- After i rows the table is their reduced form with its messages; within a row, x is cleared at the pivots before p and has the message m.
use Rattle.std.proofs.Common.{◌≡◌}
use Rattle.linear.proofs.RowClearLaws.{ReducedUpTo, Clearing}
use Rattle.linear.proofs.reduction.eliminate.Given as goal

abbrev pub invariant-loop-p : goal.invariant-loop-p
invariant-loop-p l = Clearing l.rows l.table l.messages l.i l.p l.x l.m

abbrev pub invariant-loop-i : goal.invariant-loop-i
invariant-loop-i l = ReducedUpTo l.rows l.i l.table l.messages × (l.rank ≡ l.i)
