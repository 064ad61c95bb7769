-- Within the width the later cause is that of the (72,64) code.
use Rattle.std.proofs.Common.{sym, ap, ◌∙◌}
use Rattle.answers.specs.Refusal.{Answer, answered}
use Rattle.answers.proofs.AnswerLaws.{err_answered, handed_on}
use Rattle.hsiao.proofs.WidthAnswerLaws.{message_is, refused_before, message_is_read}
use Rattle.hsiao.proofs.widths.read.Goals as goal

pub returns-in_err-word_cause : goal.returns-in_err-word_cause
returns-in_err-word_cause g c =
    let a = c.args in
    message_is_read g.row.WIDTH a.w _
    (handed_on _ _ c.from_residual.ensures ∙ err_answered _ _ _ (refused_before g.row.WIDTH a.w _ _ (sym c.in_err-word_cause.ensures)))

pub returns : goal.returns
returns g c =
    let a = c.args in
    message_is_read g.row.WIDTH a.w _
    (c.message.ensures.is ∙ ap (λ (x : Answer). answered x a.w.«data») (message_is g.row.WIDTH a.w (sym c.in_ok-word_cause.ensures)))
