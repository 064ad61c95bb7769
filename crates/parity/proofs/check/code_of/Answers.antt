-- The table of an accepted matrix gives the check rows of the definition.
use Rattle.std.proofs.Common.{◌≡◌, List, ℕ, sym, ap, ap₂, ◌∙◌, arith}
use Rattle.std.specs.Prelude.{Ok}
use Rattle.coding.specs.Lists.{padded}
use Rattle.coding.specs.Reduce.{reduced_rows}
use Rattle.coding.specs.Check.{checks}
use Rattle.words.specs.Limits.{max_rows, max_checks}
use Rattle.words.specs.Accepted.{matrix_answer}
use Rattle.words.proofs.AcceptedLaws.{accepted_in}
use Rattle.answers.proofs.AnswerLaws.{ok_answered, answered_ok}
use Rattle.linear.specs.Reduction.{messages_by_pivot}
use Rattle.linear.specs.declared.reduction.Reduction.{Reduction}
use Rattle.parity.proofs.ParityLaws.{checks_few, checks_are, code_lem}
use Rattle.parity.proofs.check.code_of.Goals as goal

pub check_rows-requires : goal.check_rows-requires
check_rows-requires c =
    let (d, x) = answered_ok _ _ _ (sym c.in_ok-rows.was ∙ c.reduce.ensures.is) in
    let A = accepted_in _ _ _ d in
    let t = ap (λ y. y.table) x in
    (omega (arith, A.range.places), checks_few _ _ _ A _ t)

pub returns : goal.returns
returns c =
    let m = c.args.matrix.now in
    let a = matrix_answer m.n m.k m.rows.now in
    let (d, x) = answered_ok a _ _ (sym c.in_ok-rows.was ∙ c.reduce.ensures.is) in
    let A = accepted_in m.n m.k m.rows.now d in
    let t = ap (λ y. y.table) x in
    let e = c.check_rows.ensures ∙ ap (padded max_checks) (checks_are m.n m.k m.rows.now A _ t) in
    let same : Ok (record { rows = c.in_ok-rows.field-0.rows; checks = c.check_rows.result; messages = c.in_ok-rows.field-0.messages })
    ≡ Ok (record { rows = padded max_rows (reduced_rows m.n m.rows.now); checks = padded max_checks (checks m.n m.rows.now); messages = messages_by_pivot m.rows.now })
    = ap₂ (λ (x : Reduction) (y : List ℕ). Ok (record { rows = x.rows; checks = y; messages = x.messages })) x e in
    code_lem c.reduce.ensures _ (same ∙ ok_answered a _ d)
