-- j entries are copied.
use Rattle.sums.specs.Inner.Doubled.{Doubled}
use Rattle.sums.proofs.tables.double.Given as goal

abbrev pub invariant-loop-j : goal.invariant-loop-j
invariant-loop-j l = Doubled l.initial.table l.half l.j l.row l.table
