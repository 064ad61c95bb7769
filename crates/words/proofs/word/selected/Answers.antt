-- The digit makes a mask of ones or of zeros.
use Rattle.coding.proofs.MachineLaws.{masked_digit}
use Rattle.words.proofs.word.selected.Goals as goal

pub returns : goal.returns
returns c = rw (c.from.ensures, c.from-2.ensures) (masked_digit c.args.row c.args.m c.ranges.row.fits)
