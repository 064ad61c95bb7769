-- The parts of the line, where the list is long enough.
use Rattle.std.proofs.Common.{refl, sym, rules}
use Rattle.lines.proofs.WroteLaws.{then, wrote_as, put_lent}
use Rattle.lines.proofs.LineLaws.{refused_parts}
use Rattle.lines.proofs.print.put_refusal.Goals as goal

pub returns : goal.returns
returns c =
    let line = then c.put_named.ensures.wrote c.put_number.ensures.wrote in
    put_lent c.if-out-lt-MAX_OUTPUT.false (wrote_as line _ (refused_parts c.args.number c.args.value)) refl (search (rules, sym line.lent))
