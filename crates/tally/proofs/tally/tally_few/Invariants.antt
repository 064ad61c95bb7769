-- The words of the slots so far are counted.
use Rattle.tally.proofs.TallyLaws.{Counting}
use Rattle.tally.proofs.tally.tally_few.Given as goal

abbrev pub invariant-loop-count : goal.invariant-loop-count
invariant-loop-count l = Counting l.counts l.count-index l.clean l.far l.places
