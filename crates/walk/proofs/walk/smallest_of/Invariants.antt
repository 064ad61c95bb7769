-- The smallest of the words so far that have the weight.
use Rattle.std.proofs.Common.{length}
use Rattle.walk.specs.Walked.{SmallestOf}
use Rattle.walk.proofs.walk.smallest_of.Given as goal

abbrev pub invariant-loop-x : goal.invariant-loop-x
invariant-loop-x l = SmallestOf l.block l.base l.weights l.w (length l.yielded) l.best
