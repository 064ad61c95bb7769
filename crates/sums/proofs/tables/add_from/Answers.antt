-- Eight places make a number below 256, the entry.
use Rattle.std.proofs.Common.{◌∙◌, refl, ap, arith, ℕ, List, ◌/◌, ◌^◌, ◌<◌, length, get_or}
use Rattle.std.specs.Int.Bits.{and_mask}
use mathlib.Core.Path.{ap₂}
use Rattle.coding.specs.Word.{◌⊕◌}
use Rattle.coding.proofs.ListLaws.{length-tabulate}
use Rattle.coding.proofs.LoopLaws.{over_next, over-tabulate_step, over-tabulate-full}
use Rattle.sums.proofs.tables.add_from.Invariants.{added}
use Rattle.sums.proofs.tables.add_from.Goals as goal

pub loop-v-preserved : goal.loop-v-preserved
loop-v-preserved c =
    let O = c.loop-v.invariant in
    let v = c.loop-v.v in
    let m = length c.args.sums.now in
    let f = added c.args.table.now c.args.place c.args.words.now c.args.sums.now in
    let h : v < m = omega (arith, O.long) in
    let before = ap (λ (x : List ℕ). get_or x v 0) O.list ∙ over_next _ c.args.sums.now v (omega (arith, length-tabulate f m)) in
    over-tabulate_step f m O _ h h
    (ap₂ (λ (x y : ℕ). x ⊕ get_or c.args.table.now y 0) before (and_mask (get_or c.args.words.now v 0 / 2 ^ c.args.place) 8))

pub returns : goal.returns
returns c =
    over-tabulate-full (added c.args.table.now c.args.place c.args.words.now c.args.sums.now) (length c.args.sums.now) c.loop-v.invariant refl
    (omega (arith, c.loop-v.invariant.long))
