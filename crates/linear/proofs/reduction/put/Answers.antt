-- The first p entries are those of the wiped list.
use Rattle.std.proofs.Common.{◌≡◌, sym, ap, ap₂, ◌∙◌, List, ℕ, length, set, slice_index_or, arith, rules}
use Rattle.coding.specs.Word.{◌⊕◌}
use Rattle.coding.specs.Inner.Beside.{wipes}
use Rattle.coding.proofs.LoopLaws.{over_step, over-full, over_next}
use Rattle.coding.proofs.TraceLaws.{wipes_at, wipes-length}
use Rattle.linear.proofs.reduction.put.Goals as goal

pub loop-p-preserved : goal.loop-p-preserved
loop-p-preserved c =
    let a = c.args in
    let O = c.loop-p.invariant in
    let p = c.loop-p.p in
    -- the wiped list has an entry for each place
    let long : length a.rows.now ≡ 32 = search rules in
    let both : length a.entries.now ≡ 32 = search rules in
    let size : length (wipes a.q a.rows.now a.entries.now a.x) ≡ 32 = wipes-length a.q a.rows.now a.entries.now a.x (omega arith) ∙ long in
    let next = ap (λ (e : List ℕ). slice_index_or e p 0) O.list ∙ over_next _ a.entries.now p (omega (arith, O.long)) in
    over_step O _ (omega (arith, O.long)) (omega (arith, O.long))
    (ap₂ ◌⊕◌ next c.selected.ensures ∙ sym (wipes_at a.q a.rows.now a.entries.now a.x p (omega (arith, O.long)) (omega (arith, O.long))))

pub returns : goal.returns
returns c =
    let a = c.args in
    let long : length a.rows.now ≡ 32 = search rules in
    let both : length a.entries.now ≡ 32 = search rules in
    let size : length (wipes a.q a.rows.now a.entries.now a.x) ≡ 32 = wipes-length a.q a.rows.now a.entries.now a.x (omega arith) ∙ long in
    ap (λ (e : List ℕ). set e a.q a.x) (over-full c.loop-p.invariant (omega arith) (omega arith))
