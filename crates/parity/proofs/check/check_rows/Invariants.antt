-- So many check rows stand in front of zeros.
use Rattle.std.proofs.Common.{length}
use Rattle.parity.proofs.CheckPackLaws.{Listed}
use Rattle.parity.proofs.check.check_rows.Given as goal

abbrev pub invariant-loop-j : goal.invariant-loop-j
invariant-loop-j l = Listed l.table l.n (length l.yielded) l.checks
