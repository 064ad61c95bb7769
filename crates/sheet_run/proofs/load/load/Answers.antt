-- The first i words are copied, the later slots are as they were.
use Rattle.std.proofs.Common.{ℕ, ◌≡◌, ◌+◌, ◌*◌, ◌∙◌, length, length-take-le, arith}
use Rattle.coding.proofs.LoopLaws.{over-tabulate_step, over-tabulate-full}
use Rattle.sheet.specs.Words.{word_at, words_at}
use Rattle.sheet.proofs.SpanLaws.{words_most}
use Rattle.sheet_run.proofs.load.load.Goals as goal

pub loop-i-preserved : goal.loop-i-preserved
unfolding words_at
loop-i-preserved c =
    let long = length-take-le c.min-m.result c.args.list.now (omega (arith, c.min-m.ensures)) in
    over-tabulate_step (λ (j : ℕ). word_at c.args.bytes.now (c.args.span.at + 4 * j)) _ c.loop-i.invariant _ (omega (arith, long)) c.loop-i-test.true
    c.word_at.ensures

-- every word is copied
all : (c : goal.After-loop-i) → c.loop-i.words ≡ words_at c.args.bytes.now c.args.span.at c.min-m.result
unfolding words_at
all c =
    let long = length-take-le c.min-m.result c.args.list.now (omega (arith, c.min-m.ensures)) in
    over-tabulate-full (λ (j : ℕ). word_at c.args.bytes.now (c.args.span.at + 4 * j)) c.min-m.result c.loop-i.invariant (omega (arith, long)) c.loop-i-test.false

pub returns : goal.returns
returns c = all c ∙ words_most c.args.bytes.now c.args.span.at c.args.span.count (length c.args.list.now) c.min-m.result c.min-m.ensures
