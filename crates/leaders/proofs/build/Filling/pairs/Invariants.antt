-- `leaders::build::Filling::pairs`: the pairs of places below p have been tried.
use Rattle.leaders.proofs.TryLaws.{Growing}
use Rattle.leaders.proofs.build.Filling.pairs.Given as goal

abbrev pub invariant-loop-p : goal.invariant-loop-p
invariant-loop-p l = Growing l.initial.self l.m 2 l.prefix l.s l.self l.tried l.p
