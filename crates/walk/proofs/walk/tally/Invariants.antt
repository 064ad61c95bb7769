-- Each count has grown by the words so far of that weight.
use Rattle.walk.proofs.BlockLaws.{Tallying}
use Rattle.walk.proofs.walk.tally.Given as goal

abbrev pub invariant-loop-w : goal.invariant-loop-w
invariant-loop-w l = Tallying l.weights l.initial.counts l.w-index l.counts
