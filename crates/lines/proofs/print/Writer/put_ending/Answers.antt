-- A count below 10 is one digit, and 255 means far.
use Rattle.std.proofs.Common.{arith, sym, refl, ap, ◌∙◌, ℕ, length}
use Rattle.lines.specs.Decimal.{decimal}
use Rattle.lines.specs.Line.{ending}
use Rattle.lines.proofs.WroteLaws.{wrote_as}
use Rattle.lines.proofs.DecimalLaws.{decimal-small, decimal_byte}
use Rattle.tally.proofs.TallyLaws.{slot_number}
use Rattle.lines.proofs.print.Writer.put_ending.Goals as goal

pub put_decimal-requires : goal.put_decimal-requires
put_decimal-requires c = rw c.from.ensures (omega (arith, decimal_byte c.args.count c.ranges.count.fits))

pub returns-then-count-lt10-clause-wrote : goal.returns-then-count-lt10-clause-wrote
returns-then-count-lt10-clause-wrote c =
    wrote_as c.put.ensures _
    (sym (decimal-small _ c.if-count-lt10.true) ∙ slot_number ending decimal refl (λ d. refl) _ (λ z. omega arith))

pub returns-else-count-eq-FAR-clause-wrote : goal.returns-else-count-eq-FAR-clause-wrote
returns-else-count-eq-FAR-clause-wrote c =
    wrote_as c.put_decimal.ensures _ (ap decimal c.from.ensures ∙ slot_number ending decimal refl (λ d. refl) _ (λ z. omega arith))

pub returns-else-count-eq-FAR-clause-upper_bound : goal.returns-else-count-eq-FAR-clause-upper_bound
returns-else-count-eq-FAR-clause-upper_bound c =
    omega (arith, c.put_decimal.ensures.puts.ends, ap (λ (x : ℕ). length (decimal x)) c.from.ensures, decimal_byte c.args.count c.ranges.count.fits)
