-- The rows come one after the other, each with its index.
use Rattle.std.proofs.Common.{◌∙◌, arith, rules, length, ℕ}
use Rattle.std.proofs.lemmas.List.{length_push}
use borrow.Author.Tests.{tests}
use Rattle.std.specs.List.{filter, enumerate_from}
use Rattle.std.proofs.lemmas.Iterator.{YieldsList, YieldsList-from_slice}
use Rattle.std.proofs.lemmas.Iterator.Consumers.{YieldsList-at, YieldsList-from_filter, YieldsList-from_enumerate, YieldsList-turn, YieldsList-end}
use Rattle.linear.proofs.RowPackLaws.{is_row, row_turn, rows_all, compacted_step, rows_padded}
use Rattle.linear.proofs.reduction.compact.Goals.{After-into_iter-j-iterator}
use Rattle.linear.proofs.reduction.compact.Given as given
use Rattle.linear.proofs.reduction.compact.Goals as goal

-- the rows, each with its index
items : (c : After-into_iter-j-iterator)
    → YieldsList {B = ℕ × ℕ} (given.iterator-loop-j).next_gives (λ p. (p.0, p.1.now)) c.into_iter-j-iterator.result (enumerate_from 0 (filter is_row c.args.table.now))
items c =
    YieldsList-at c.into_iter-j-iterator.ensures.into_iter_gives
    (YieldsList-from_enumerate
    (YieldsList-at c.enumerate-j-items.ensures.source
    (YieldsList-from_filter _ is_row (YieldsList-from_slice c.args.table.now cc) c.filter.ensures.closure (λ x r q k. search (rules, tests))))
    cc)

pub bounds-rows-j : goal.bounds-rows-j
bounds-rows-j c =
    let e = items (goal.at.bounds-rows-j c).After-into_iter-j-iterator in
    let t = row_turn c.args.table.now (length c.loop-j.yielded) c.in-Some.j c.in-Some.field-0-1.now
    (YieldsList-turn e c.loop-j.yielded _ c.loop-j.yielded_by _ _ (c.in-Some.j, c.in-Some.field-0-1) c.in-Some.is c.next.ensures.steps) in
    omega (arith, t, c.requires)

pub loop-j-preserved : goal.loop-j-preserved
loop-j-preserved c =
    let e = items (goal.at.loop-j-preserved c).After-into_iter-j-iterator in
    let t = row_turn c.args.table.now (length c.loop-j.yielded) c.in-Some.j c.in-Some.field-0-1.now
    (YieldsList-turn e c.loop-j.yielded _ c.loop-j.yielded_by _ _ (c.in-Some.j, c.in-Some.field-0-1) c.in-Some.is c.next.ensures.steps) in
    rw (length_push c.loop-j.yielded (c.in-Some.j, c.in-Some.field-0-1), t.1)
    (compacted_step c.args.table.now 20 c.loop-j.invariant c.in-Some.field-0-1.now t.0 c.requires t.2)

pub returns : goal.returns
returns c =
    let e = items (goal.at.returns c).After-into_iter-j-iterator in
    let t = YieldsList-end e c.loop-j.yielded _ c.loop-j.yielded_by _ _ c.in-None.is c.next.ensures.steps in
    rows_padded c.args.table.now 20 c.loop-j.invariant (t.1 ∙ rows_all c.args.table.now) c.requires
