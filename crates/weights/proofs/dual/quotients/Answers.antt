-- Each entry is what the closure gives.
use Rattle.std.proofs.Common.{◌-◌, ◌/◌, ◌^◌, get_or, rules}
use Rattle.weights.proofs.WeightSlotLaws.{slots_given}
use Rattle.weights.proofs.dual.quotients.Goals as goal

pub returns : goal.returns
returns c =
    slots_given _ (λ j. (get_or c.args.even.now j 0 - get_or c.args.odd.now j 0) / 2 ^ c.args.low) _ c.from_fn.result c.from_fn.ensures.items (λ x r q h e. search rules)
