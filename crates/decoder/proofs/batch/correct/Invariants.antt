-- `decoder::batch::correct`: the first i slots are answered.
use Rattle.decoder.specs.Inner.SlotsBy.{words_with, counts_with}
use Rattle.coding.proofs.LoopLaws.{Over}
use Rattle.decoder.proofs.batch.correct.Given as goal

abbrev pub invariant-loop-i : goal.invariant-loop-i
invariant-loop-i l = Over (words_with l.batch.reading l.batch.words.now l.initial.out) l.initial.out l.i l.out × Over (counts_with l.batch.reading l.batch.words.now l.initial.out) l.initial.counts l.i l.counts
