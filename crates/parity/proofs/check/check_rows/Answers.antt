-- The places that are no pivot come one after the other, each with its index.
use Rattle.std.proofs.Common.{◌∙◌, arith, rules, length, get_or, ◌≡◌, ◌<◌, ℕ}
use Rattle.std.proofs.lemmas.List.{length_push}
use borrow.Author.Tests.{tests}
use Rattle.std.specs.List.{filter, enumerate_from, range_with_len}
use Rattle.std.proofs.lemmas.Iterator.{YieldsList, YieldsList-from_range}
use Rattle.std.proofs.lemmas.Iterator.Consumers.{YieldsList-at, YieldsList-from_filter, YieldsList-from_enumerate, YieldsList-turn, YieldsList-end}
use Rattle.parity.proofs.CheckPackLaws.{is_free, frees_below, place_turn, places_all, listed_step, listed_end}
use Rattle.parity.proofs.check.check_rows.Goals.{After-into_iter-j-iterator, In-Some}
use Rattle.parity.proofs.check.check_rows.Given as given
use Rattle.parity.proofs.check.check_rows.Goals as goal

-- the places, each with its index
items : (c : After-into_iter-j-iterator)
    → YieldsList {B = ℕ × ℕ} (given.iterator-loop-j).next_gives (λ p. p) c.into_iter-j-iterator.result (enumerate_from 0 (filter (is_free c.args.table.now) (range_with_len 0 c.args.n)))
items c =
    YieldsList-at c.into_iter-j-iterator.ensures.into_iter_gives
    (YieldsList-from_enumerate
    (YieldsList-at c.enumerate-j-items.ensures.source
    (YieldsList-from_filter _ (is_free c.args.table.now) (YieldsList-from_range 0 c.args.n c.args.n c.filter.ensures.source (omega arith))
    c.filter.ensures.closure (λ x r q k. search (rules, tests))))
    cc)

turn : (c : In-Some) → (length c.loop-j.yielded < length (frees_below c.args.table.now c.args.n)) × (c.in-Some.j ≡ length c.loop-j.yielded)
    × (c.in-Some.q ≡ get_or (frees_below c.args.table.now c.args.n) (length c.loop-j.yielded) 0) × (c.in-Some.q < c.args.n)
turn c =
    place_turn c.args.table.now c.args.n (length c.loop-j.yielded) c.in-Some.j c.in-Some.q (omega (arith, c.told-table, c.requires))
    (YieldsList-turn (items (goal.at.overflow_shl-checks c).After-into_iter-j-iterator) c.loop-j.yielded _ c.loop-j.yielded_by _ _ (c.in-Some.j, c.in-Some.q) c.in-Some.is c.next.ensures.steps)

pub overflow_cast-checks : goal.overflow_cast-checks
overflow_cast-checks c = omega (arith, turn c, c.requires)

pub overflow_shl-checks : goal.overflow_shl-checks
overflow_shl-checks c = omega (arith, turn c, c.requires)

pub overflow_cast-q : goal.overflow_cast-q
overflow_cast-q c = omega (arith, turn c, c.requires)

pub offset_bounds-checks-j : goal.offset_bounds-checks-j
offset_bounds-checks-j c = omega (arith, turn (goal.at.offset_bounds-checks-j c).In-Some, c.requires)

pub bounds-checks-j : goal.bounds-checks-j
bounds-checks-j c = omega (arith, turn (goal.at.bounds-checks-j c).In-Some, c.requires)

pub loop-j-preserved : goal.loop-j-preserved
loop-j-preserved c =
    let t = turn (goal.at.loop-j-preserved c).In-Some in
    rw (length_push c.loop-j.yielded (c.in-Some.j, c.in-Some.q), t.1)
    (listed_step c.args.table.now c.args.n c.loop-j.invariant c.in-Some.q _ t.0 c.requires.1 (omega (arith, t, c.requires)) t.2 c.column.ensures)

pub returns : goal.returns
returns c =
    let t = YieldsList-end (items (goal.at.returns c).After-into_iter-j-iterator) c.loop-j.yielded _ c.loop-j.yielded_by _ _ c.in-None.is c.next.ensures.steps in
    listed_end c.args.table.now c.args.n c.loop-j.invariant (t.1 ∙ places_all c.args.table.now c.args.n (omega (arith, c.told-table, c.requires)))
