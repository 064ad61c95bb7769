-- So many rows stand in front of zeros.
use Rattle.std.proofs.Common.{length}
use Rattle.words.specs.Limits.{max_rows}
use Rattle.linear.proofs.RowPackLaws.{Compacted}
use Rattle.linear.proofs.reduction.compact.Given as goal

abbrev pub invariant-loop-j : goal.invariant-loop-j
invariant-loop-j l = Compacted l.table max_rows (length l.yielded) l.rows
