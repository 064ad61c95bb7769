-- The pairs of places below p have been tried; what has been tried is far below 2 ^ 64.
use Rattle.std.proofs.Common.{arith}
use Rattle.leaders.proofs.TryLaws.{tried-small, growing-small, growing_fits, growing_high, growing_next, growing-full}
use Rattle.leaders.proofs.build.Filling.pairs.Goals as goal

pub overflow_add-prefix : goal.overflow_add-prefix
overflow_add-prefix c = record { fits = growing_fits c.loop-p.invariant c.loop-p-test.true }

pub units-tried-requires : goal.units-tried-requires
units-tried-requires c = growing_high c.loop-p.invariant c.loop-p-test.true (omega arith)

pub overflow_add-tried : goal.overflow_add-tried
overflow_add-tried c =
    let G = c.loop-p.invariant in
    let h = c.loop-p-test.true in
    record { fits = omega (arith, growing-small G (omega (arith, h)), tried-small c.units-tried.ensures.tried (omega (arith, h, G.rising.trying.places))) }

pub returns-then-self-eq0 : goal.returns-then-self-eq0
returns-then-self-eq0 c = growing-full c.loop-p.invariant c.loop-p-test.true c.units-tried.ensures c.if-self-eq0.true

pub loop-p-preserved : goal.loop-p-preserved
loop-p-preserved c = growing_next c.loop-p.invariant c.loop-p-test.true c.units-tried.ensures (omega (arith, c.if-self-eq0.false))
