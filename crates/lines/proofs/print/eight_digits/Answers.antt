-- The places of a byte, drawn apart.
use Rattle.lines.proofs.DigitLaws.{apart-low}
use Rattle.lines.proofs.print.eight_digits.Goals as goal

pub returns : goal.returns
returns c = rw (c.to_le_bytes.ensures, c.from-a.ensures) (apart-low c.args.w)
