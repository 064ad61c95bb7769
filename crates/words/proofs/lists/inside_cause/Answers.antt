-- The first word with a one outside is refused.
use Rattle.std.proofs.Common.{refl, ◌∙◌, length, sym}
use Rattle.answers.specs.Refusal.{done}
use Rattle.answers.specs.declared.answer.Refusal.TheVariants.{WordOutside}
use Rattle.answers.proofs.AnswerLaws.{first_refused, first_passes}
use Rattle.words.specs.Shape.{outside}
use Rattle.words.proofs.ShapeLaws.{outside-some, outside-nothing}
use Rattle.words.proofs.lists.inside_cause.Goals as goal

pub returns-in-Some : goal.returns-in-Some
returns-in-Some c =
    let (first, inside) = outside-some c.args.places c.args.words.now _ (sym c.in-Some.is ∙ c.first_outside.ensures) in
    first_refused (outside c.args.places c.args.words.now) (length c.args.words.now) WordOutside done _ first inside

pub returns-in-None : goal.returns-in-None
returns-in-None c =
    let none = outside-nothing c.args.places c.args.words.now (sym c.in-None.is ∙ c.first_outside.ensures) in
    first_passes (outside c.args.places c.args.words.now) (length c.args.words.now) WordOutside done _ (sym none) refl
