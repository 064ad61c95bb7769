-- The first i words are copied, the later slots are as they were.
use Rattle.coding.proofs.LoopLaws.{Over}
use Rattle.sheet.specs.Words.{words_at}
use Rattle.sheet_run.proofs.load.load.Given as goal

abbrev pub invariant-loop-i : goal.invariant-loop-i
invariant-loop-i l = Over (words_at l.bytes l.span.at l.m) l.initial.words l.i l.words
