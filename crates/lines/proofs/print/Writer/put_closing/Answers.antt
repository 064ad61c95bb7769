-- The parts of the line.
use Rattle.lines.proofs.WroteLaws.{then, wrote_as}
use Rattle.lines.proofs.LineLaws.{closing_parts}
use Rattle.lines.proofs.print.Writer.put_closing.Goals as goal

pub returns : goal.returns
returns c =
    wrote_as
    (then (then (then c.put_named.ensures.wrote c.put_named-2.ensures.wrote) c.put_named-3.ensures.wrote) c.put_named-4.ensures.wrote) _
    (closing_parts c.args.t)
