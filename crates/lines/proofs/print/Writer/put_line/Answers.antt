-- The parts of the line.
use Rattle.std.proofs.Common.{arith}
use Rattle.lines.proofs.WroteLaws.{then, wrote_as, same_length, ends}
use Rattle.lines.proofs.LineLaws.{length_digits, slot_parts}
use Rattle.lines.proofs.print.Writer.put_line.Goals as goal

pub put-requires : goal.put-requires
put-requires c = omega (arith, length_digits, ends, same_length)

pub put_ending-requires : goal.put_ending-requires
put_ending-requires c = omega (arith, length_digits, ends, same_length)

pub put-requires-2 : goal.put-requires-2
put-requires-2 c = omega (arith, length_digits, ends, same_length)

pub returns-clause-wrote : goal.returns-clause-wrote
returns-clause-wrote c =
    wrote_as (then (then (then c.put_digits.ensures c.put.ensures) c.put_ending.ensures.wrote) c.put-2.ensures) _
    (slot_parts c.args.n c.args.c c.args.count)

pub returns-clause-upper_bound : goal.returns-clause-upper_bound
returns-clause-upper_bound c = omega (arith, length_digits, ends)
