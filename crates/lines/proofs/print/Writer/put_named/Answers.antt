-- The word, then the number.
use Rattle.lines.proofs.WroteLaws.{then}
use Rattle.lines.proofs.print.Writer.put_named.Goals as goal

pub returns-clause-wrote : goal.returns-clause-wrote
returns-clause-wrote c = then c.put_text.ensures c.put_number.ensures.wrote
