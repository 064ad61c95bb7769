-- Causes 1 to 4, and 9 by the room for the leaders.
use Rattle.std.proofs.Common.{refl, sym, ap, ◌∙◌, ℕ, List, length}
use Rattle.std.specs.Prelude.{Result, Err}
use Rattle.answers.specs.Refusal.{answer_of}
use Rattle.answers.specs.declared.answer.Refusal.{Refusal}
use Rattle.answers.proofs.AnswerLaws.{handed_on, answer_of-answered, answered_ok, answered_err}
use Rattle.words.specs.Accepted.{matrix_answer}
use Rattle.words.specs.Widest.{EveryRow}
use Rattle.words.proofs.ShapeLaws.{every_row_of}
use Rattle.words.proofs.AcceptedLaws.{accepted_in}
use Rattle.parity.specs.ParityChecks.{ParityChecksOf}
use Rattle.leaders.proofs.LeaderPromiseLaws.{matrix_refuses, work_refuses, work_short, work_done, list_kept, no_tries, some_tries}
use Rattle.leaders.proofs.LeaderPromiseLaws.{leaders_stand, leaders_refused, leaders_written}
use Rattle.leaders.proofs.leaders.leaders_of.Goals as goal

every_row : (n k : ℕ) (rows : List ℕ) (r : Result (List ℕ) Refusal) → ParityChecksOf n k rows r → EveryRow n (matrix_answer n k rows)
every_row n k rows r P = every_row_of (answer_of r) _ (ap answer_of P.is ∙ answer_of-answered (matrix_answer n k rows) _) P.every_row

pub returns-in_err-checks : goal.returns-in_err-checks
returns-in_err-checks c =
    let m = c.args.matrix.now in
    let P = c.parity_checks.ensures in
    leaders_refused m.n m.k m.rows.now (every_row m.n m.k m.rows.now _ P) c.args.list.now _ refl _
    (matrix_refuses m.n m.k m.rows.now (length c.args.list.now) _ (answered_err _ _ _ (sym c.in_err-checks.was ∙ P.is))) _ (handed_on _ _ c.from_residual.ensures)

pub returns-in_err-tried : goal.returns-in_err-tried
returns-in_err-tried c =
    let m = c.args.matrix.now in
    let P = c.parity_checks.ensures in
    let L = c.fill_leaders.ensures in
    let A = accepted_in m.n m.k m.rows.now (answered_ok _ _ _ (sym c.in_ok-checks.was ∙ P.is)).0 in
    let (none, short) = no_tries _ _ _ (sym c.in_err-tried.was ∙ c.ok_or.ensures.value) in
    leaders_refused m.n m.k m.rows.now (every_row m.n m.k m.rows.now _ P) c.args.list.now _ (list_kept L none) _
    (work_refuses m.n m.k m.rows.now (length c.args.list.now) A (work_short m.n m.k m.rows.now A L none)) _
    (handed_on _ _ c.from_residual-in_err-tried.ensures ∙ ap Err short)

pub returns : goal.returns
returns c =
    let m = c.args.matrix.now in
    let P = c.parity_checks.ensures in
    let L = c.fill_leaders.ensures in
    let (d, e) = answered_ok _ _ _ (sym c.in_ok-checks.was ∙ P.is) in
    let A = accepted_in m.n m.k m.rows.now d in
    let s = some_tries _ _ _ (sym c.in_ok-tried.was ∙ c.ok_or.ensures.value) in
    leaders_written m.n m.k m.rows.now A c.args.list.now (work_done m.n m.k m.rows.now A L s) (rw c.in_ok-checks.was at P) e _
    (leaders_stand m.n m.k m.rows.now A L s e)
