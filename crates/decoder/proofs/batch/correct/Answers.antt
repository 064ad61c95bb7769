-- The first i slots are answered: the outcome is that of the word, with the leader that still stands in its slot.
use Rattle.std.proofs.Common.{◌≡◌, sym, ap, ◌∙◌, List, ℕ, length, get_or, ◌<◌, arith}
use Rattle.coding.proofs.ListLaws.{length-tabulate}
use Rattle.coding.proofs.LoopLaws.{over_next, over-tabulate_step, over-tabulate-full}
use Rattle.outcomes.specs.Outcome.{outcome_of, word_in, count_in}
use Rattle.outcomes.specs.declared.ending.Outcome.{Outcome}
use Rattle.outcomes.specs.declared.ending.Reading.{Reading}
use Rattle.decoder.specs.Inner.SlotsBy.{words_with}
use Rattle.decoder.proofs.batch.correct.Goals as goal

-- the slots of word i with the leader beside it
abbrev word_at : Reading → List ℕ → List ℕ → ℕ → ℕ
word_at reading words leaders i = word_in (outcome_of reading (get_or words i 0) (get_or leaders i 0)) (get_or words i 0)

abbrev count_at : Reading → List ℕ → List ℕ → ℕ → ℕ
count_at reading words leaders i = count_in (outcome_of reading (get_or words i 0) (get_or leaders i 0))

pub loop-i-preserved : goal.loop-i-preserved
loop-i-preserved c =
    let a = c.args in
    let i = c.loop-i.i in
    let w = get_or a.batch.now.words.now i 0 in
    let m = length a.batch.now.words.now in
    let h : i < m = omega (arith, c.loop-i-test.true) in
    let (out, counts) = c.loop-i.invariant in
    let ended : c.outcome_of-o.result ≡ outcome_of a.batch.now.reading w (get_or a.out.now i 0) =
    c.outcome_of-o.ensures
    ∙ ap (outcome_of a.batch.now.reading w)
    (ap (λ (x : List ℕ). get_or x i 0) out.list
    ∙ over_next (words_with a.batch.now.reading a.batch.now.words.now a.out.now) a.out.now i
    (omega (arith, h, length-tabulate (word_at a.batch.now.reading a.batch.now.words.now a.out.now) m))) in (
      over-tabulate_step (word_at a.batch.now.reading a.batch.now.words.now a.out.now) m out _ h (omega (arith, h, c.requires))
          (c.word.ensures ∙ ap (λ (x : Outcome ℕ). word_in x w) ended),
      over-tabulate_step (count_at a.batch.now.reading a.batch.now.words.now a.out.now) m counts _ h (omega (arith, h, c.requires))
          (c.count.ensures ∙ ap count_in ended),
    )

pub returns-clause-codewords : goal.returns-clause-codewords
returns-clause-codewords c =
    let a = c.args in
    over-tabulate-full (word_at a.batch.now.reading a.batch.now.words.now a.out.now) (length a.batch.now.words.now) c.loop-i.invariant.0 (sym c.requires.0)
    (omega (arith, c.requires, c.loop-i-test.false))

pub returns-clause-counts : goal.returns-clause-counts
returns-clause-counts c =
    let a = c.args in
    over-tabulate-full (count_at a.batch.now.reading a.batch.now.words.now a.out.now) (length a.batch.now.words.now) c.loop-i.invariant.1 (sym c.requires.1)
    (omega (arith, c.requires, c.loop-i-test.false))
