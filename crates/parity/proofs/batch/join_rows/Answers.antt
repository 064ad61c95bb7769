-- The row that comes is the one before those that were taken.
use Rattle.std.proofs.Common.{sym, ap, ◌∙◌, ℕ, length, replicate, arith}
use Rattle.std.proofs.lemmas.List.{length-reverse, length_push}
use Rattle.std.proofs.lemmas.Iterator.Adapters.{YieldsList-from_rev_slice}
use Rattle.std.proofs.lemmas.Iterator.Consumers.{YieldsList-turn}
use Rattle.parity.proofs.SyndromeLaws.{rows_start, rows_joined}
use Rattle.parity.proofs.batch.join_rows.Goals as goal

pub loop-row-init : goal.loop-row-init
loop-row-init c =
    let a = c.args in
    c.fill.ensures.after (λ y e. e) ∙ ap (λ (m : ℕ). replicate m 0) (sym c.requires.1) ∙ rows_start a.checks.now a.words.now

pub loop-row-preserved : goal.loop-row-preserved
loop-row-preserved c =
    let a = c.args in
    let (more, is) = YieldsList-turn (YieldsList-from_rev_slice a.checks.now (cc)) c.loop-row.yielded _ c.loop-row.yielded_by _ _ c.in-Some.row c.in-Some.is c.next.ensures.steps in
    rows_joined a.checks.now a.words.now c.loop-row.list c.join_row.new.list (length c.loop-row.yielded) _ c.in-Some.row.now c.requires.0
    (omega (arith, more, length-reverse a.checks.now)) (length_push c.loop-row.yielded c.in-Some.row) is c.loop-row.invariant c.join_row.ensures
