-- The list is cut behind what a call takes.
use Rattle.std.proofs.Common.{ap, ◌∙◌}
use Rattle.coding.proofs.ListLaws.{take_most}
use Rattle.words.specs.Limits.{max_words}
use Rattle.tally.specs.Slots.{slot_tally}
use Rattle.tally.proofs.tally.tally_of.Goals as goal

pub returns : goal.returns
returns c =
    c.tally_few.ensures ∙ ap slot_tally (take_most c.args.counts.now max_words c.min.result c.min.ensures)
