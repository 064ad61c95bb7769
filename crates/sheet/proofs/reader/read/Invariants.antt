-- The answer is that of the fields left, after the last tag and with the contents so far.
use Rattle.std.proofs.Common.{length, ◌-◌}
use Rattle.sheet.proofs.FieldLaws.{Reads}
use Rattle.sheet.proofs.reader.read.Given as goal

abbrev pub invariant-loop-at : goal.invariant-loop-at
invariant-loop-at l = Reads l.bytes l.contents l.at l.last

abbrev pub decreases-loop-at : goal.decreases-loop-at
decreases-loop-at l = length l.bytes - l.at
