-- The row at which the elimination ends is the first that is a sum of earlier rows.
use Rattle.std.proofs.Common.{refl, sym, ◌∙◌, arith}
use Rattle.coding.proofs.WidthLaws.{inside_wide}
use Rattle.answers.proofs.AnswerLaws.{handed_on}
use Rattle.words.proofs.ShapeLaws.{shape_in}
use Rattle.words.proofs.AcceptedLaws.{shape_refused, matrix_every_row}
use Rattle.linear.proofs.PivotTableLaws.{reduction_refused}
use Rattle.linear.proofs.EliminatedLaws.{ended_dependent, ended_few, ended_done}
use Rattle.linear.proofs.reduction.reduce.Goals as goal

pub returns-in_err-shape_cause : goal.returns-in_err-shape_cause
returns-in_err-shape_cause c =
    let m = c.args.matrix.now in
    let every_row = matrix_every_row m.n m.k m.rows.now c.shape_cause.ensures.words in
    reduction_refused m.n m.k m.rows.now every_row _ (shape_refused _ _ _ _ (sym c.shape_cause.ensures.answer ∙ c.in_err-shape_cause.was))
    _ (handed_on _ _ c.from_residual.ensures)

pub eliminate-e-requires-clause-rows_len_bound : goal.eliminate-e-requires-clause-rows_len_bound
eliminate-e-requires-clause-rows_len_bound c =
    let s = shape_in _ _ _ (sym c.shape_cause.ensures.answer ∙ c.in_ok-shape_cause.was) in
    omega (arith, s.count, s.range.rows)

pub eliminate-e-requires-clause-inside : goal.eliminate-e-requires-clause-inside
eliminate-e-requires-clause-inside c =
    let m = c.args.matrix.now in
    let s = shape_in m.n m.k m.rows.now (sym c.shape_cause.ensures.answer ∙ c.in_ok-shape_cause.was) in
    inside_wide m.n 32 (omega (arith, s.range.places)) m.rows.now s.inside

pub returns-then-e-matrix : goal.returns-then-e-matrix
returns-then-e-matrix c =
    let m = c.args.matrix.now in
    let every_row = matrix_every_row m.n m.k m.rows.now c.shape_cause.ensures.words in
    reduction_refused m.n m.k m.rows.now every_row _
    (ended_dependent _ _ _ (sym c.shape_cause.ensures.answer ∙ c.in_ok-shape_cause.was) c.eliminate-e.ensures c.if-e-matrix.true) _ refl

pub compact-requires : goal.compact-requires
compact-requires c =
    ended_few _ _ _ (sym c.shape_cause.ensures.answer ∙ c.in_ok-shape_cause.was) c.eliminate-e.ensures c.if-e-matrix.false

pub returns : goal.returns
returns c =
    let m = c.args.matrix.now in
    let every_row = matrix_every_row m.n m.k m.rows.now c.shape_cause.ensures.words in
    ended_done _ _ _ (sym c.shape_cause.ensures.answer ∙ c.in_ok-shape_cause.was) c.eliminate-e.ensures c.if-e-matrix.false every_row c.compact.ensures
