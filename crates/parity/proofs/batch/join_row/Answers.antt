-- The first v entries have their digit.
use Rattle.std.proofs.Common.{refl, ap, ap₂, ◌∙◌, List, ℕ, ◌*◌, ◌%◌, ◌^◌, ◌<◌, length, slice_index_or, arith}
use Rattle.coding.specs.Lists.{tabulate}
use Rattle.coding.specs.Word.{◌⊕◌}
use Rattle.coding.proofs.ListLaws.{length-tabulate}
use Rattle.coding.proofs.LoopLaws.{over_next, over-tabulate_step, over-tabulate-full}
use Rattle.parity.specs.Inner.Joined.{joined_by}
use Rattle.parity.proofs.batch.join_row.Goals as goal

pub loop-v-preserved : goal.loop-v-preserved
loop-v-preserved c =
    let a = c.args in
    let O = c.loop-v.invariant in
    let v = c.loop-v.v in
    let m = length a.list.now in
    let f = joined_by a.row a.words.now a.list.now in
    let h : v < m = omega (arith, O.long, c.loop-v-test.true) in
    let before = ap (λ (x : List ℕ). slice_index_or x v 0) O.list ∙ over_next (tabulate f m) a.list.now v (omega (arith, h, length-tabulate f m)) in
    over-tabulate_step f m O _ h h (ap₂ (λ (x y : ℕ). (x * 2 ^ 1) % 2 ^ 32 ⊕ y) before c.parity.ensures)

pub returns : goal.returns
returns c =
    let a = c.args in
    let O = c.loop-v.invariant in
    over-tabulate-full (joined_by a.row a.words.now a.list.now) (length a.list.now) O refl (omega (arith, O.long, c.loop-v-test.false))
