-- `leaders::build::fill_list`: the words of weight below t have been tried.
use Rattle.leaders.proofs.TryLaws.{OfferedIn}
use Rattle.leaders.proofs.build.fill_list.Given as goal

abbrev pub invariant-loop-t : goal.invariant-loop-t
invariant-loop-t l = OfferedIn l.initial.filling l.n l.c l.t l.filling l.tried
