-- The syndromes of the single places stand in front of zeros.
use Rattle.std.proofs.Common.{take}
use Rattle.parity.proofs.CheckColumnLaws.{columns_singles}
use Rattle.parity.proofs.check.columns.Goals as goal

pub returns : goal.returns
returns c =
    columns_singles c.args.n (take c.args.c c.args.checks.now) c.min-end.result c.single_places-single.result c.syndromes.new.out
    c.min-end.ensures c.single_places-single.ensures c.syndromes.ensures.slots
