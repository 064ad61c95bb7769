-- The parts of the line.
use Rattle.lines.proofs.WroteLaws.{then, wrote_as}
use Rattle.lines.proofs.LineLaws.{code_parts}
use Rattle.lines.proofs.print.Writer.put_code.Goals as goal

pub returns-clause-wrote : goal.returns-clause-wrote
returns-clause-wrote c =
    wrote_as
    (then (then (then c.put_number.ensures.wrote c.put_number-2.ensures.wrote) c.put_number-3.ensures.wrote) c.put_number-4.ensures.wrote)
    _ (code_parts c.args.n c.args.k c.args.d _ c.half_below.ensures)
