-- The words whose places lie below p have been tried; in the calls the number of places falls.
use Rattle.std.proofs.Common.{arith}
use Rattle.leaders.proofs.TryLaws.{tried-small, growing_start, growing-small, growing_fits, growing_high, growing_next, growing-full, growing_end}
use Rattle.leaders.proofs.build.Filling.+words.Goals as goal

pub loop-p-init : goal.loop-p-init
loop-p-init t c = growing_start c.requires

pub overflow_add-prefix : goal.overflow_add-prefix
overflow_add-prefix t c = record { fits = growing_fits c.loop-p.invariant c.loop-p-test.true }

pub words-tried-requires : goal.words-tried-requires
words-tried-requires t c =
    let G = c.loop-p.invariant in
    let h = c.loop-p-test.true in
    (omega (arith, h, c.decreases), growing_high G h (omega (arith, c.if-t-eq1.false, c.if-t-eq2.false, G.rising.trying.some)))

pub overflow_add-tried : goal.overflow_add-tried
overflow_add-tried t c =
    let G = c.loop-p.invariant in
    let h = c.loop-p-test.true in
    record { fits = omega (arith, growing-small G (omega (arith, h)), tried-small c.words-tried.ensures.tried (omega (arith, h, G.rising.trying.places))) }

pub returns-then-self-eq0 : goal.returns-then-self-eq0
returns-then-self-eq0 t c = growing-full c.loop-p.invariant c.loop-p-test.true c.words-tried.ensures c.if-self-eq0.true

pub loop-p-preserved : goal.loop-p-preserved
loop-p-preserved t c = growing_next c.loop-p.invariant c.loop-p-test.true c.words-tried.ensures (omega (arith, c.if-self-eq0.false))

pub returns : goal.returns
returns t c = growing_end c.loop-p.invariant c.loop-p-test.false
