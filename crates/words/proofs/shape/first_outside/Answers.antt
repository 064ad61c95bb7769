-- Where every word has n places, none has a one outside.
use Rattle.words.proofs.ShapeLaws.{inside-nothing}
use Rattle.words.proofs.shape.first_outside.Goals as goal

pub returns-then-all_inside : goal.returns-then-all_inside
returns-then-all_inside c = inside-nothing c.args.n c.args.words.now (c.all_inside.ensures c.if-all_inside.true)
