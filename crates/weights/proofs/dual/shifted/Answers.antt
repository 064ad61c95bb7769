-- Each entry is what the closure gives.
use Rattle.std.proofs.Common.{◌+◌, get_or, rules}
use Rattle.weights.specs.Inner.Overlap.{earlier}
use Rattle.weights.proofs.WeightSlotLaws.{slots_given}
use Rattle.weights.proofs.dual.shifted.Goals as goal

pub returns : goal.returns
returns c =
    slots_given _ (λ j. get_or c.args.a.now j 0 + earlier (λ i. get_or c.args.b.now i 0) j) _ c.from_fn.result c.from_fn.ensures.items (λ x r q h e. search rules)
