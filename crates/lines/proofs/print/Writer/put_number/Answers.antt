-- The digits, of which there are 20 at most, then the character.
use Rattle.std.proofs.Common.{arith}
use Rattle.lines.proofs.WroteLaws.{same_length, ends}
use Rattle.lines.proofs.DecimalLaws.{decimal-word}
use Rattle.lines.proofs.print.Writer.put_number.Goals as goal

pub put_decimal-requires : goal.put_decimal-requires
put_decimal-requires c = omega (arith, decimal-word c.args.x c.ranges.x.fits)

pub put-requires : goal.put-requires
put-requires c = omega (arith, same_length c.put_decimal.ensures, ends c.put_decimal.ensures, decimal-word c.args.x c.ranges.x.fits)

pub returns-clause-upper_bound : goal.returns-clause-upper_bound
returns-clause-upper_bound c = omega (arith, ends c.put_decimal.ensures, ends c.put.ensures, decimal-word c.args.x c.ranges.x.fits)
