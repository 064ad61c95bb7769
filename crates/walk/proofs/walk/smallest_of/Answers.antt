-- Each word of the weight is compared with the smallest before it.
use Rattle.std.proofs.Common.{◌∙◌, sym, ap, ℕ, Bor, min}
use Rattle.std.proofs.lemmas.List.{length_push}
use Rattle.std.proofs.lemmas.Slice.Zip.{zip_turn}
use Rattle.coding.specs.Word.{◌⊕◌}
use Rattle.walk.proofs.BlockLaws.{smallest_met}
use Rattle.walk.proofs.walk.smallest_of.Goals as goal

pub loop-x-preserved-then-v-w : goal.loop-x-preserved-then-v-w
loop-x-preserved-then-v-w c =
    let p : Bor ℕ × Bor ℕ = (c.in-Some.field-0-0, c.in-Some.field-0-1) in
    let t = zip_turn c.args.block.now c.args.weights.now c.loop-x.yielded c.into_iter-x-iterator.result c.loop-x.x-iterator c.next.new.self c.next.result (cc) (cc) c.loop-x.yielded_by p c.in-Some.is c.next.ensures.steps in
    rw (length_push c.loop-x.yielded p)
    (smallest_met c.loop-x.invariant (sym (t.3 0) ∙ c.if-v-w.true) (c.min-best.ensures ∙ ap (λ (x : ℕ). min c.loop-x.best (x ⊕ c.args.base)) (t.2 0)))
