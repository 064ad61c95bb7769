-- The causes group by group, then the sums of the messages at the pivots.
use Rattle.std.proofs.Common.{◌≡◌, ℕ, List, ◌++◌, ◌-◌, length, take, drop, refl, sym, ap, ◌∙◌}
use Rattle.std.specs.Prelude.{Result, Ok}
use Rattle.coding.specs.Check.{checks}
use Rattle.coding.specs.Matrix.{encode, message_of}
use Rattle.words.specs.Accepted.{matrix_answer}
use Rattle.words.specs.Widest.{EveryRow}
use Rattle.words.specs.Lists.{list_answer}
use Rattle.answers.specs.Refusal.{done, answer_of}
use Rattle.answers.specs.declared.answer.Refusal.{Refusal}
use Rattle.answers.specs.declared.answer.Refusal.TheVariants.{NoCodeword}
use Rattle.words.proofs.ShapeLaws.{every_row_of}
use Rattle.words.proofs.AcceptedLaws.{accepted_in}
use Rattle.answers.proofs.AnswerLaws.{handed_on, stays, goes, first_refused, first_passes, kept, written, answer_of-answered, answered_ok, answered_err}
use Rattle.words.proofs.WordListLaws.{list_in}
use Rattle.words.proofs.ResultLaws.{enough-slots}
use Rattle.parity.specs.ParityChecks.{CodeOf}
use Rattle.parity.specs.declared.check.Code.{Code}
use Rattle.parity.proofs.CodeOfLaws.{first-checks}
use Rattle.encoder.specs.MessagesRead.{other}
use Rattle.encoder.proofs.EncoderLaws.{messages_are, messages_read, past, other-found, other-none}
use Rattle.encoder.proofs.read_back.message.Goals as goal

module _ (n k : ℕ) (rows : List ℕ) (r : Result Code Refusal) (C : CodeOf n k rows r) where
  every_row : EveryRow n (matrix_answer n k rows)
  every_row = every_row_of _ _ (ap answer_of C.checks.is ∙ answer_of-answered (matrix_answer n k rows) _) C.checks.every_row

  -- past causes 1 to 4
  module _ (code : Code) (e : r ≡ Ok code) where
    passed : matrix_answer n k rows ≡ done
    passed = (answered_ok _ _ _ (sym e ∙ C.is)).0

    check_rows_are : (c : ℕ) → c ≡ n - k → take c code.checks ≡ checks n rows
    check_rows_are c q =
        rw q (first-checks n k rows (accepted_in n k rows passed) code.checks (ap (λ (x : Code). x.checks) (answered_ok _ _ _ (sym e ∙ C.is)).1))

pub returns-in_err-code : goal.returns-in_err-code
returns-in_err-code c =
    let m = c.args.matrix.now in
    let e = handed_on _ _ c.from_residual.ensures in
    let f = answered_err _ _ _ (sym c.in_err-code.was ∙ c.code_of.ensures.is) in
    messages_read m.n m.k m.rows.now c.args.words.now c.args.out.now _ c.args.out.now (every_row _ _ _ _ c.code_of.ensures) (λ i h. (c.type_inv.words i).fits)
    (e ∙ sym f ∙ stays (matrix_answer m.n m.k m.rows.now) _ _ f) (kept _ _ e _ _)

pub returns-in_err-list_cause : goal.returns-in_err-list_cause
returns-in_err-list_cause c =
    let m = c.args.matrix.now in
    let e = handed_on _ _ c.from_residual-in_err-list_cause.ensures in
    let l = sym c.list_cause.ensures.answer ∙ c.in_err-list_cause.was in
    messages_read m.n m.k m.rows.now c.args.words.now c.args.out.now _ c.args.out.now (every_row _ _ _ _ c.code_of.ensures) c.list_cause.ensures.words
    (e ∙ sym l ∙ stays (list_answer c.args.words.now m.n (length c.args.out.now)) _ _ l
    ∙ goes (matrix_answer m.n m.k m.rows.now) _ (passed _ _ _ _ c.code_of.ensures _ c.in_ok-code.was)) (kept _ _ e _ _)

pub first_other-requires : goal.first_other-requires
first_other-requires c = (list_in c.args.words.now c.args.matrix.now.n _ (sym c.list_cause.ensures.answer ∙ c.in_ok-list_cause.was)).few

pub returns-in-Some : goal.returns-in-Some
returns-in-Some c =
    let m = c.args.matrix.now in
    let words = c.args.words.now in
    let C = c.code_of.ensures in
    let d = passed _ _ _ _ C _ c.in_ok-code.was in
    let l = sym c.list_cause.ensures.answer ∙ c.in_ok-list_cause.was in
    let hs = check_rows_are _ _ _ _ C _ c.in_ok-code.was _ c.check_count.ensures in
    let (f, ne) = other-found m.n m.k m.rows.now words (length c.args.out.now) d l _ hs c.in-Some.i c.in-Some.ensures in
    messages_read m.n m.k m.rows.now words c.args.out.now _ c.args.out.now (every_row _ _ _ _ C) c.list_cause.ensures.words
    (first_refused (other m.rows.now words) (length words) NoCodeword done _ f ne
    ∙ past m.n m.k m.rows.now words (length c.args.out.now) d l _) refl

pub returns : goal.returns
returns c =
    let m = c.args.matrix.now in
    let words = c.args.words.now in
    let C = c.code_of.ensures in
    let d = passed _ _ _ _ C _ c.in_ok-code.was in
    let l = sym c.list_cause.ensures.answer ∙ c.in_ok-list_cause.was in
    let hs = check_rows_are _ _ _ _ C _ c.in_ok-code.was _ c.check_count.ensures in
    let none = other-none m.n m.k m.rows.now words (length c.args.out.now) d l _ hs c.in_default.ensures in
    messages_read m.n m.k m.rows.now words c.args.out.now _ _ (every_row _ _ _ _ C) c.list_cause.ensures.words
    (first_passes (other m.rows.now words) (length words) NoCodeword done _ (sym none) refl
    ∙ past m.n m.k m.rows.now words (length c.args.out.now) d l _)
    (written (message_of m.rows.now) words c.args.out.now _
    (c.row_sums.ensures
    ∙ enough-slots (encode c.in_ok-code.code.messages) words c.args.out.now (list_in words m.n _ l).room
    ∙ ap (λ (s : List ℕ). s ++ drop (length words) c.args.out.now)
    (messages_are m.n m.k m.rows.now (accepted_in _ _ _ d) c.in_ok-code.code.messages (rw c.in_ok-code.was at C.messages.traced) words none)))
