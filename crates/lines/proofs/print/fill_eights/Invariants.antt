-- The first p digits are put.
use Rattle.std.proofs.Common.{◌≡◌, take}
use Rattle.lines.specs.Line.{digits_of}
use Rattle.lines.proofs.print.fill_eights.Given as goal

abbrev pub invariant-loop-p : goal.invariant-loop-p
invariant-loop-p l = take l.p l.digits ≡ digits_of l.p l.w
