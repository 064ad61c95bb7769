-- The largest weights have been added, as many as were taken.
use Rattle.std.proofs.Common.{length, get_or}
use Rattle.weights.proofs.OverlapSumLaws.{Running}
use Rattle.weights.proofs.dual.overlap_counts.Given as goal

abbrev pub invariant-loop-count : goal.invariant-loop-count
invariant-loop-count l = Running l.n (λ i. get_or l.counts i 0) l.even l.odd l.all (length l.yielded)
