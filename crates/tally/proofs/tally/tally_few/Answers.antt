-- The words of the slots so far are counted, and there are no more than these.
use Rattle.std.proofs.Common.{arith, get_or, nat_eq}
use Rattle.tally.proofs.TallyLaws.{test-adds, counting_step, counting-words, counting-places, counting_end}
use Rattle.tally.proofs.tally.tally_few.Goals as goal

pub overflow_add-clean : goal.overflow_add-clean
overflow_add-clean c =
    omega (arith, counting-words c.loop-count.invariant, c.from-clean.ensures, test-adds (nat_eq (get_or c.args.counts.now c.loop-count.count-index 0) 0))

pub overflow_add-far : goal.overflow_add-far
overflow_add-far c =
    omega (arith, counting-words c.loop-count.invariant, c.from-far.ensures, test-adds (nat_eq (get_or c.args.counts.now c.loop-count.count-index 0) 255))

pub overflow_add-places : goal.overflow_add-places
overflow_add-places c =
    omega (
      arith,
      counting-places (counting_step c.loop-count.invariant _ (omega arith) c.places_in-places.ensures) (λ j. (c.type_inv.counts j).fits),
    )

pub loop-count-preserved : goal.loop-count-preserved
loop-count-preserved c =
    rw (c.from-clean.ensures, c.from-far.ensures) (counting_step c.loop-count.invariant _ (omega arith) c.places_in-places.ensures)

pub overflow_sub-result : goal.overflow_sub-result
overflow_sub-result c = omega (arith, counting-words c.loop-count.invariant)

pub overflow_sub-result-2 : goal.overflow_sub-result-2
overflow_sub-result-2 c = omega (arith, counting-words c.loop-count.invariant)

pub returns : goal.returns
returns c = counting_end c.loop-count.invariant (omega arith)
