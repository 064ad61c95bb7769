-- `parity::batch::join_rows`: every word has its digits by the last check rows, as many as were taken.
use Rattle.std.proofs.Common.{◌≡◌, map, ◌-◌, length, drop}
use Rattle.coding.specs.Check.{syndrome}
use Rattle.parity.proofs.batch.join_rows.Given as goal

abbrev pub invariant-loop-row : goal.invariant-loop-row
invariant-loop-row l = l.list ≡ map (syndrome (drop (length l.checks - length l.yielded) l.checks)) l.words
