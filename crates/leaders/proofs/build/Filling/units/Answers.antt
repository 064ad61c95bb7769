-- A word takes its entry where that is blank.
use Rattle.std.proofs.Common.{refl, arith}
use Rattle.leaders.proofs.TryLaws.{unit_entry, unit_stored, unit_held, growing_fits, growing_next, growing-full}
use Rattle.leaders.proofs.build.Filling.units.Goals.{then-self-x+else-self-eq0, else-self-x}
use Rattle.leaders.proofs.build.Filling.units.Goals as goal

pub bounds-self-x : goal.bounds-self-x
bounds-self-x c = unit_entry c.loop-p.invariant.rising c.loop-p-test.true

pub overflow_add-self : goal.overflow_add-self
overflow_add-self c = record { fits = growing_fits c.loop-p.invariant c.loop-p-test.true }

pub returns-then-self-eq0 : goal.returns-then-self-eq0
returns-then-self-eq0 c =
    let G = c.loop-p.invariant in
    let h = c.loop-p-test.true in
    growing-full G h (record { tried = unit_stored G.rising h c.if-self-x.true; columns = refl; lent = refl }) c.if-self-eq0.true

pub loop-p-preserved : goal.loop-p-preserved
loop-p-preserved c =
    let G = c.loop-p.invariant in
    let h = c.loop-p-test.true in
    elim c.if-self-x.branch [
      | then-self-x+else-self-eq0 w ↦
          rw w.self-is (growing_next G h (record { tried = unit_stored G.rising h w.if-self-x.true; columns = refl; lent = refl }) (omega (arith, w.if-self-eq0.false)))
      | else-self-x w ↦ rw w.self-is (growing_next G h (record { tried = unit_held G.rising h w.if-self-x.false; columns = refl; lent = refl }) G.rising.more)
    ]
