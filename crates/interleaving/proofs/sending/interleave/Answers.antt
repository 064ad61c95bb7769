-- The causes in turn, then the bits.
use Rattle.std.proofs.Common.{sym, ◌∙◌, length, arith}
use Rattle.answers.proofs.AnswerLaws.{handed_on, stays, goes}
use Rattle.words.specs.Accepted.{matrix_answer}
use Rattle.words.proofs.AcceptedLaws.{accepted_in}
use Rattle.interleaving.specs.Causes.{length_answer}
use Rattle.interleaving.proofs.BitLaws.{length_in}
use Rattle.interleaving.proofs.InterleavePromiseLaws.{interleave_refused, interleave_done}
use Rattle.interleaving.proofs.sending.interleave.Goals as goal

pub returns-in_err-accept : goal.returns-in_err-accept
returns-in_err-accept c =
    let e = sym c.accept.ensures.answer ∙ c.in_err-accept.was in
    interleave_refused _ _ _ _ _ _ c.accept.ensures (λ i h. (c.type_inv.words i).fits) _ _ (handed_on _ _ c.from_residual.ensures)
    (sym (stays (matrix_answer _ _ _) _ _ e) ∙ e)

pub returns-in_err-length_cause : goal.returns-in_err-length_cause
returns-in_err-length_cause c =
    let e = sym c.length_cause.ensures ∙ c.in_err-length_cause.was in
    interleave_refused _ _ _ _ _ _ c.accept.ensures (λ i h. (c.type_inv.words i).fits) _ _ (handed_on _ _ c.from_residual-in_err-length_cause.ensures)
    (sym (stays (length_answer _ _ _) _ _ e ∙ goes (matrix_answer _ _ _) _ (sym c.accept.ensures.answer ∙ c.in_ok-accept.was)) ∙ e)

pub returns-in_err-inside_cause : goal.returns-in_err-inside_cause
returns-in_err-inside_cause c =
    let e = sym c.inside_cause.ensures ∙ c.in_err-inside_cause.was in
    interleave_refused _ _ _ _ _ _ c.accept.ensures (λ i h. (c.type_inv.words i).fits) _ _ (handed_on _ _ c.from_residual-in_err-inside_cause.ensures)
    (sym (goes (length_answer _ _ _) _ (sym c.length_cause.ensures ∙ c.in_ok-length_cause.was)
    ∙ goes (matrix_answer _ _ _) _ (sym c.accept.ensures.answer ∙ c.in_ok-accept.was)) ∙ e)

pub send_words-requires : goal.send_words-requires
send_words-requires c =
    let m = c.args.matrix.now in
    let F = length_in m.n (length c.args.words.now) (length c.args.bits.now) (sym c.length_cause.ensures ∙ c.in_ok-length_cause.was) in
    let A = accepted_in m.n m.k m.rows.now (sym c.accept.ensures.answer ∙ c.in_ok-accept.was) in
    (F.positive, F.long, omega (arith, A.range.places))

pub returns : goal.returns
returns c =
    interleave_done _ _ _ _ _ _ c.accept.ensures (λ i h. (c.type_inv.words i).fits)
    (sym c.accept.ensures.answer ∙ c.in_ok-accept.was) (sym c.length_cause.ensures ∙ c.in_ok-length_cause.was)
    (sym c.inside_cause.ensures ∙ c.in_ok-inside_cause.was) _ c.send_words.ensures
