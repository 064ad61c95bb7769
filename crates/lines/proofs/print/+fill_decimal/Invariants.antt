-- The number falls.
use Rattle.lines.proofs.print.+fill_decimal.Given as goal

abbrev pub decreases-fill_decimal : goal.decreases-fill_decimal
decreases-fill_decimal l = l.x
