-- The causes in turn.
use Rattle.std.proofs.Common.{sym, ◌∙◌}
use Rattle.words.specs.Lists.{many_answer, inside_answer, list_answer}
use Rattle.answers.proofs.AnswerLaws.{handed_on, stays, goes}
use Rattle.words.proofs.lists.list_cause.Goals as goal

pub returns-in_err-many_cause-clause-answer : goal.returns-in_err-many_cause-clause-answer
unfolding list_answer
returns-in_err-many_cause-clause-answer c =
    let e = sym c.many_cause.ensures ∙ c.in_err-many_cause.was in
    handed_on _ _ c.from_residual.ensures ∙ sym e ∙ stays (many_answer c.args.words.now) _ _ e

pub returns-in_err-inside_cause-clause-answer : goal.returns-in_err-inside_cause-clause-answer
unfolding list_answer
returns-in_err-inside_cause-clause-answer c =
    let e = sym c.inside_cause.ensures ∙ c.in_err-inside_cause.was in
    handed_on _ _ c.from_residual-in_err-inside_cause.ensures ∙ sym e
    ∙ stays (inside_answer c.args.words.now c.args.places) _ _ e
    ∙ goes (many_answer c.args.words.now) _ (sym c.many_cause.ensures ∙ c.in_ok-many_cause.was)

pub returns-clause-answer : goal.returns-clause-answer
unfolding list_answer
returns-clause-answer c =
    c.room_cause.ensures
    ∙ goes (inside_answer c.args.words.now c.args.places) _ (sym c.inside_cause.ensures ∙ c.in_ok-inside_cause.was)
    ∙ goes (many_answer c.args.words.now) _ (sym c.many_cause.ensures ∙ c.in_ok-many_cause.was)
