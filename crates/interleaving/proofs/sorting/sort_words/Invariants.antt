-- The first i words are sorted back.
use Rattle.coding.specs.Interleaving.{sorted_words}
use Rattle.coding.proofs.LoopLaws.{Over}
use Rattle.interleaving.proofs.sorting.sort_words.Given as goal

abbrev pub invariant-loop-i : goal.invariant-loop-i
invariant-loop-i l = Over (sorted_words l.n l.depth l.bits) l.initial.word-items l.i l.word-items
