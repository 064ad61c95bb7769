-- What is told of the description.
use Rattle.weights.specs.Description.{DescriptionOf}
use Rattle.telling.proofs.ToldLaws.{told_value}
use Rattle.relay_codes.proofs.codes.relay_describe.Goals as goal

pub returns : goal.returns
returns c =
    let D = c.describe.ensures in
    let T = c.tell-number.ensures in
    told_value (DescriptionOf c.args.n c.args.k c.args.rows.now) _ _ D.is D T.number T.value T.given
