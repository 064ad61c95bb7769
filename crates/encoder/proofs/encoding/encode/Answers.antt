-- The causes group by group, then the row sums.
use Rattle.std.proofs.Common.{sym, ◌∙◌}
use Rattle.coding.specs.Matrix.{encode}
use Rattle.words.specs.Accepted.{matrix_answer}
use Rattle.answers.proofs.AnswerLaws.{handed_on, stays, goes, kept, written}
use Rattle.words.proofs.ShapeLaws.{every_row_of}
use Rattle.words.proofs.WordListLaws.{list_in}
use Rattle.words.proofs.ResultLaws.{enough-slots}
use Rattle.encoder.proofs.EncoderLaws.{encoded}
use Rattle.encoder.proofs.encoding.encode.Goals as goal

pub returns-in_err-accept : goal.returns-in_err-accept
returns-in_err-accept c =
    let m = c.args.matrix.now in
    let A = c.accept.ensures in
    let e = handed_on _ _ c.from_residual.ensures in
    encoded m.n m.k m.rows.now c.args.messages.now c.args.out.now _ c.args.out.now (every_row_of _ _ A.answer A.every_row)
    (e ∙ sym c.in_err-accept.was ∙ A.answer ∙ stays (matrix_answer m.n m.k m.rows.now) _ _ (sym A.answer ∙ c.in_err-accept.was)) (kept _ _ e _ _)

pub returns-in_err-list_cause : goal.returns-in_err-list_cause
returns-in_err-list_cause c =
    let m = c.args.matrix.now in
    let A = c.accept.ensures in
    let e = handed_on _ _ c.from_residual-in_err-list_cause.ensures in
    encoded m.n m.k m.rows.now c.args.messages.now c.args.out.now _ c.args.out.now (every_row_of _ _ A.answer A.every_row)
    (e ∙ sym c.in_err-list_cause.was ∙ c.list_cause.ensures.answer ∙ goes (matrix_answer m.n m.k m.rows.now) _ (sym A.answer ∙ c.in_ok-accept.was))
    (kept _ _ e _ _)

pub returns : goal.returns
returns c =
    let m = c.args.matrix.now in
    let A = c.accept.ensures in
    let listed = sym c.list_cause.ensures.answer ∙ c.in_ok-list_cause.was in
    encoded m.n m.k m.rows.now c.args.messages.now c.args.out.now _ _ (every_row_of _ _ A.answer A.every_row)
    (sym listed ∙ goes (matrix_answer m.n m.k m.rows.now) _ (sym A.answer ∙ c.in_ok-accept.was))
    (written (encode m.rows.now) c.args.messages.now c.args.out.now _
    (c.row_sums.ensures ∙ enough-slots (encode m.rows.now) c.args.messages.now c.args.out.now (list_in c.args.messages.now m.k _ listed).room))
