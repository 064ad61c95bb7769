-- What is told of the leaders.
use Rattle.leaders.specs.Leaders.{LeadersOf}
use Rattle.telling.proofs.ToldLaws.{told_value}
use Rattle.relay_codes.proofs.codes.relay_leaders.Goals as goal

pub returns : goal.returns
returns c =
    let L = c.leaders_of.ensures in
    let T = c.tell-number.ensures in
    told_value (λ r. LeadersOf c.args.n c.args.k c.args.rows.now c.args.leaders.now r c.leaders_of.new.list) _ _ L.is L T.number T.value T.given
