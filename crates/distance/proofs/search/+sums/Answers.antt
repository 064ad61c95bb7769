-- With row p there come the sums of t - 1 rows before it, each with row p added.
use Rattle.std.proofs.Common.{◌≡◌, min, rules, arith}
use Rattle.std.proofs.iter.runs.Made.{chains}
use Rattle.std.specs.List.{fold}
use Rattle.coding.specs.Word.{◌⊕◌}
use Rattle.distance.proofs.LeastSumLaws.{least_rows, least_start, least_next, least_first}
use Rattle.distance.proofs.search.+sums.Goals as goal

pub least_sum-returns-then-t-eq1 : goal.least_sum-returns-then-t-eq1
least_sum-returns-then-t-eq1 g t c = λ f keeps.
    let a = c.args in
    let e : c.fold.result ≡ fold (λ least row. min least (f (row ⊕ a.base))) a.best a.rows.now = search (rules, chains, keeps) in
    rw (c.if-t-eq1.true, e) (least_rows f a.rows.now a.base a.best)

pub least_by_last-loop-p-init : goal.least_by_last-loop-p-init
least_by_last-loop-p-init g t c = λ f keeps. least_start f _ _ _ _ _ (omega (arith, c.requires.number))

pub least_by_last-loop-p-preserved : goal.least_by_last-loop-p-preserved
least_by_last-loop-p-preserved g t c = λ f keeps.
    let a = c.args in
    least_next f a.rows.now c.loop-p.p a.t a.base a.best c.loop-p.least c.least_sum-least.result (omega (arith, c.requires.number))
    (c.loop-p.invariant f keeps)
    (least_first f a.rows.now c.loop-p.p _ _ _ _ (omega (arith, c.loop-p-test.true)) (c.least_sum-least.ensures f keeps))
