-- The digits stand behind what was put before.
use Rattle.std.proofs.Common.{arith, refl}
use Rattle.lines.proofs.AppendLaws.{appends_behind}
use Rattle.lines.proofs.print.Writer.put_decimal.Goals as goal

pub returns : goal.returns
returns c = record { lent = refl; puts = appends_behind (omega arith) c.fill_decimal-digits.ensures }
