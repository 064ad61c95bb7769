-- After i rows the table is their reduced form with its messages; within a row, x is cleared at the pivots before p and has the message m.
use Rattle.std.proofs.Common.{refl, arith}
use Rattle.coding.proofs.MachineLaws.{shl_one}
use Rattle.linear.proofs.RowClearLaws.{reduced_start, clear_start, clear_step, clear_none, clear_place, clear_put}
use Rattle.linear.proofs.reduction.eliminate.Goals as goal

pub loop-i-init : goal.loop-i-init
loop-i-init c = (reduced_start _ c.requires.inside, refl)

pub loop-p-init : goal.loop-p-init
loop-p-init c = rw (shl_one c.loop-i.i 32 (omega (arith, c.requires.rows_len_bound))) (clear_start c.loop-i.invariant.0 c.loop-i-test.true)

pub loop-p-preserved : goal.loop-p-preserved
loop-p-preserved c = clear_step c.loop-p.invariant (omega arith) c.selected-x.ensures c.selected-m.ensures

pub put-requires : goal.put-requires
put-requires c = clear_place c.loop-p.invariant (omega arith) c.if-x-eq0.false

pub put-requires-in-loop-i : goal.put-requires-in-loop-i
put-requires-in-loop-i c = clear_place c.loop-p.invariant (omega arith) c.if-x-eq0.false

pub loop-i-preserved : goal.loop-i-preserved
loop-i-preserved c = (clear_put c.loop-p.invariant (omega arith) c.if-x-eq0.false c.put.ensures c.put-in-loop-i.ensures, refl)

pub returns-after-loop-i : goal.returns-after-loop-i
returns-after-loop-i c =
    let (R, e) = c.loop-i.invariant in
    rw e (record { within = R.within; table = R.table_is; before = R.none; there = λ h. absurd (omega (arith, h)); traced = R.traced })

pub returns-then-x-eq0 : goal.returns-then-x-eq0
returns-then-x-eq0 c =
    let C = c.loop-p.invariant in
    let R = C.before in
    rw c.loop-i.invariant.1
    (record { within = R.within; table = R.table_is; before = R.none; there = λ h. clear_none C c.if-x-eq0.true; traced = R.traced })
