-- The lines so far are put.
use Rattle.std.proofs.Common.{length, take, ◌+◌, ◌*◌, ◌≤◌}
use Rattle.lines.specs.Batch.{slot_lines}
use Rattle.lines.specs.Inner.Wrote.{Wrote}
use Rattle.lines.proofs.print.Writer.put_lines.Given as goal

abbrev pub invariant-loop-c : goal.invariant-loop-c
invariant-loop-c l =
    let i = length l.yielded in record {
      wrote : Wrote l.initial.self (slot_lines l.n (take i l.codewords) (take i l.counts)) l.self;
      within : l.self.at ≤ l.initial.self.at + 37 * i;
    }
