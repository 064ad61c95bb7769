-- The shift tests the places from n on; from the width on there are none.
use Rattle.coding.proofs.MachineLaws.{fits_shift, fits_all}
use Rattle.words.proofs.word.fits.Goals as goal

pub returns-then-n-lt32 : goal.returns-then-n-lt32
returns-then-n-lt32 c = fits_shift _ c.args.n

pub returns-else-n-lt32 : goal.returns-else-n-lt32
returns-else-n-lt32 c = fits_all 32 _ _ c.ranges.w.fits c.if-n-lt32.false
