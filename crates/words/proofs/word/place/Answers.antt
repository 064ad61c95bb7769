-- From the width on there are no places.
use Rattle.std.proofs.Common.{sym}
use Rattle.coding.proofs.MachineLaws.{bit_beyond}
use Rattle.words.proofs.word.place.Goals as goal

pub returns-else-i-lt32 : goal.returns-else-i-lt32
returns-else-i-lt32 c = sym (bit_beyond 32 c.args.w c.args.i c.ranges.w.fits c.if-i-lt32.false)
