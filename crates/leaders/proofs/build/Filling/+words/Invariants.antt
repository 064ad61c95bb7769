-- `leaders::build::Filling::words`: the words whose places lie below p have been tried; in the calls the number of places falls.
use Rattle.leaders.proofs.TryLaws.{Growing}
use Rattle.leaders.proofs.build.Filling.+words.Given as goal

abbrev pub decreases-words : goal.decreases-words
decreases-words l = l.m

abbrev pub invariant-loop-p : goal.invariant-loop-p
invariant-loop-p l = Growing l.initial.self l.m l.t l.prefix l.s l.self l.tried l.p
