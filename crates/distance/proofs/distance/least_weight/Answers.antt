-- No sum of t rows or more is lighter than t, and there are none of more than all rows.
use Rattle.std.proofs.Common.{◌+◌, rules, arith, inl, inr}
use Rattle.coding.specs.Word.{weight}
use Rattle.distance.proofs.LeastSumLaws.{found_start, found_next, found_end}
use Rattle.walk.proofs.WalkedLaws.{walked_all, lightest_is}
use Rattle.distance.proofs.distance.least_weight.Goals as goal

pub loop-t-init : goal.loop-t-init
loop-t-init c = (omega arith, found_start weight 33 _)

pub returns-then-best-t : goal.returns-then-best-t
returns-then-best-t c = found_end c.args.rows.now c.loop-t.t c.loop-t.best c.requires c.loop-t.invariant.1 (inr c.if-best-t.true)

pub returns-then-rows-le-WALKED_ROWS : goal.returns-then-rows-le-WALKED_ROWS
returns-then-rows-le-WALKED_ROWS c =
    let W = walked_all (omega (arith, c.requires.accepted.range.rows, c.requires.accepted.count)) c.walk_all.ensures in
    let e = lightest_is c.requires.n c.requires.k c.args.rows.now c.requires.accepted c.walk_all.result W in
    let found = rw e at c.map_or.ensures in
    search rules

pub loop-t-preserved : goal.loop-t-preserved
loop-t-preserved c =
    let L = c.least_sum-best.ensures weight (λ b x y p. search rules) in
    (omega (arith, L.upper, c.loop-t.invariant.0), found_next weight 33 _ _ _ _ (omega (arith, c.loop-t.auto.t)) c.loop-t.invariant.1 L)

pub returns-else-t-gt-SUMMED_ROWS : goal.returns-else-t-gt-SUMMED_ROWS
returns-else-t-gt-SUMMED_ROWS c =
    let L = c.least_sum-best.ensures weight (λ b x y p. search rules) in
    found_end c.args.rows.now (c.loop-t.t + 1) c.least_sum-best.result c.requires
    (found_next weight 33 _ _ _ _ (omega (arith, c.loop-t.auto.t)) c.loop-t.invariant.1 L) (inl (omega (arith, c.loop-t-test.true)))
