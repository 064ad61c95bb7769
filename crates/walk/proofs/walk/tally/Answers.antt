-- A count is no larger than the number of words counted, for which there is room.
use Rattle.walk.proofs.BlockLaws.{tally_fits}
use Rattle.walk.proofs.walk.tally.Goals as goal

pub overflow_add-counts : goal.overflow_add-counts
overflow_add-counts c = record { fits = tally_fits c.loop-w.invariant c.loop-w-test.true }
