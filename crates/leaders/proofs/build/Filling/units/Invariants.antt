-- `leaders::build::Filling::units`: the words prefix + 2 ^ i for the places i below p have been tried.
use Rattle.leaders.proofs.TryLaws.{Growing}
use Rattle.leaders.proofs.build.Filling.units.Given as goal

abbrev pub invariant-loop-p : goal.invariant-loop-p
invariant-loop-p l = Growing l.initial.self l.m 1 l.prefix l.s l.self l.p l.p
