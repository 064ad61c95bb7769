-- The search over the counts has passed the weights from 1 to j - 1.
use Rattle.std.proofs.Common.{◌∙◌, ap, arith, suc, not, ne_eqb, ℕ, Option, unwrap_or}
use Rattle.coding.proofs.LoopLaws.{search_hit, search_end}
use Rattle.walk.proofs.BlockLaws.{least_some, least_none}
use Rattle.walk.proofs.walk.least_of.Goals as goal

pub returns-then-unwrap_or-ne0 : goal.returns-then-unwrap_or-ne0
returns-then-unwrap_or-ne0 c =
    let (i, e, S) = c.loop-j.invariant in
    let value = c.unwrap_or.ensures ∙ ap (λ (o : Option ℕ). unwrap_or o 0) c.copied.ensures ∙ c.get.ensures.lookup.4 (omega arith) 0 in
    least_some c.args.counts.now c.loop-j.j (e ∙ ap suc (search_hit S (omega arith) (ap not (ne_eqb _ 0 (rw (value, e) at c.if-unwrap_or-ne0.true))))) (omega arith)

pub returns : goal.returns
returns c = let (i, e, S) = c.loop-j.invariant in least_none c.args.counts.now (omega (arith, search_end S (omega arith)))
