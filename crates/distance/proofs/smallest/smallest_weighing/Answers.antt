-- All sums of at most w rows are looked at, and there are none of more than all rows.
use Rattle.std.proofs.Common.{◌+◌, rules, arith}
use Rattle.distance.specs.Inner.LeastSum.{of_weight}
use Rattle.distance.proofs.LeastSumLaws.{found_start, found_next, smallest_end}
use Rattle.distance.proofs.smallest.smallest_weighing.Goals as goal

pub loop-t-init : goal.loop-t-init
loop-t-init c = (omega arith, omega arith, found_start _ _ _)

pub loop-t-preserved : goal.loop-t-preserved
loop-t-preserved c =
    let L = c.least_sum-best.ensures (of_weight c.args.w) (λ b x y p. search rules) in (
      omega (arith, c.loop-t-test.true),
      omega (arith, L.upper, c.loop-t.invariant.1),
      found_next _ _ _ _ _ _ (omega (arith, c.loop-t.auto.t)) c.loop-t.invariant.2 L,
    )

pub returns-2 : goal.returns-2
returns-2 c =
    let L = c.least_sum-best.ensures (of_weight c.args.w) (λ b x y p. search rules) in
    let (near, small, found) = c.loop-t.invariant in
    smallest_end _ c.args.w (c.loop-t.t + 1) _ (omega (arith, c.loop-t-test.true, c.min-t-end.ensures)) (omega (arith, L.upper, small))
    (found_next _ _ _ _ _ _ (omega (arith, c.loop-t.auto.t)) found L) (omega (arith, c.min-t-end.ensures))
