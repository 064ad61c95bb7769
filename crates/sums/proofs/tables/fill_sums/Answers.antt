-- The first `half` entries are sums of i rows: twice as many with each row, until the table is full.
use Rattle.std.proofs.Common.{rules, ◌∙◌, refl, ap, ◌+◌, ℕ, Option, unwrap_or}
use Rattle.std.proofs.Math.ListN.{length-set}
use Rattle.coding.specs.Lists.{tabulate}
use Rattle.coding.specs.Matrix.{encode}
use Rattle.sums.proofs.TableLaws.{row_next, summed_start, summed_step, summed_end}
use Rattle.sums.proofs.tables.fill_sums.Goals as goal

pub loop-half-init : goal.loop-half-init
loop-half-init c =
    (refl, (0, c.iter-left.ensures.rest, summed_start c.args.rows.now c.args.table.now (search rules)))

pub loop-half-preserved : goal.loop-half-preserved
loop-half-preserved c =
    let (i, left, S) = c.loop-half.invariant.1 in
    let (rest, row) = row_next c.args.rows.now i c.loop-half.left c.next.new.self c.next.result left c.next.ensures.steps in (
      c.double.ensures.size ∙ c.loop-half.invariant.0,
      (
        i + 1,
        rest,
        summed_step S c.min-count.result c.unwrap_or-row.result c.double.new.table c.loop-half-test.true
            c.min-count.ensures (c.unwrap_or-row.ensures ∙ ap (λ (o : Option ℕ). unwrap_or o 0) c.copied.ensures ∙ row) c.double.ensures,
      ),
    )

pub returns : goal.returns
returns c =
    let (i, left, S) = c.loop-half.invariant.1 in
    summed_end S c.loop-half-test.false
    ∙ ap (tabulate (encode c.args.rows.now)) (c.loop-half.invariant.0 ∙ length-set c.args.table.now 0 0)
