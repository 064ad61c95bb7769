-- The length, then the bytes.
use Rattle.std.proofs.Common.{sym, ◌∙◌, length}
use Rattle.answers.proofs.AnswerLaws.{handed_on, stays}
use Rattle.interleaving.specs.Causes.{length_answer, bits_answer}
use Rattle.interleaving.proofs.BitLaws.{bits_decide}
use Rattle.interleaving.proofs.causes.bits_cause.Goals as goal

pub returns-in_err-length_cause : goal.returns-in_err-length_cause
unfolding bits_answer
returns-in_err-length_cause c =
    let e = sym c.length_cause.ensures ∙ c.in_err-length_cause.was in
    handed_on _ _ c.from_residual.ensures ∙ sym e ∙ stays (length_answer c.args.n c.args.depth (length c.args.bits.now)) _ _ e

pub returns-then-only_bits : goal.returns-then-only_bits
returns-then-only_bits c =
    (simp (sym c.only_bits.ensures ∙ c.if-only_bits.true))
    ∙ bits_decide c.args.n c.args.depth c.args.bits.now (sym c.length_cause.ensures ∙ c.in_ok-length_cause.was)

pub returns : goal.returns
returns c =
    (simp (sym c.only_bits.ensures ∙ c.if-only_bits.false))
    ∙ bits_decide c.args.n c.args.depth c.args.bits.now (sym c.length_cause.ensures ∙ c.in_ok-length_cause.was)
