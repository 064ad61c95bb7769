-- Of fewer than eight digits the first p are put.
use Rattle.std.proofs.Common.{length}
use Rattle.coding.proofs.LoopLaws.{Over}
use Rattle.lines.specs.Line.{digits_of}
use Rattle.lines.proofs.print.fill_digits.Given as goal

abbrev pub invariant-loop-p : goal.invariant-loop-p
invariant-loop-p l = Over (digits_of (length l.initial.digits) l.w) l.initial.digits l.p l.digits
