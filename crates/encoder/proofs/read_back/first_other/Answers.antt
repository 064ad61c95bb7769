-- The syndromes stand in the first entries, and the first that is not 0 is found.
use Rattle.std.proofs.Common.{ap, ◌∙◌}
use Rattle.coding.specs.Lists.{zeros}
use Rattle.words.specs.Shape.{some_outside}
use Rattle.words.proofs.ResultLaws.{first_are}
use Rattle.encoder.proofs.read_back.first_other.Goals as goal

pub returns : goal.returns
returns c = c.first_outside.ensures ∙ ap (some_outside 0) (first_are _ c.args.words.now (zeros 512) _ c.requires c.syndromes.ensures.slots)
