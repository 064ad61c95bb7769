-- The places from some j on are in w.
use Rattle.interleaving.proofs.SortLaws.{Sorting}
use Rattle.interleaving.proofs.sorting.sorted_word.Given as goal

abbrev pub invariant-loop-b : goal.invariant-loop-b
invariant-loop-b l = Sorting l.n l.depth l.bits l.i l.w l.b

abbrev pub decreases-loop-b : goal.decreases-loop-b
decreases-loop-b l = l.b
