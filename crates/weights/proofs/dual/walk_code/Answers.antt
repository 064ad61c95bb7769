-- The walk, or what it would find.
use Rattle.std.proofs.Common.{arith, rules}
use Rattle.distance.specs.SmallestSum.{SmallestSum}
use Rattle.walk.proofs.WalkedLaws.{walked_all}
use Rattle.weights.proofs.WalkCodeLaws.{code_walked}
use Rattle.weights.proofs.dual.walk_code.Goals as goal

pub returns-then-matrix-le-FEW_ROWS : goal.returns-then-matrix-le-FEW_ROWS
returns-then-matrix-le-FEW_ROWS c =
    walked_all (omega (arith, c.requires.accepted.range.rows, c.requires.accepted.count)) c.walk_all.ensures

pub returns : goal.returns
returns c =
    let P = c.requires in
    code_walked _ P.k _ P.accepted _ (c.counts_by_checks-counts.ensures P.k c.args.matrix.now.rows.now P.accepted P.checks_are) c.least_of.result c.least_of.ensures
    c.map-lightest.result c.map-lightest.ensures.cases (λ l h q.
    let S : SmallestSum c.args.reduced.now l h.word = search rules in (search rules, rw P.reduced_are at S))
