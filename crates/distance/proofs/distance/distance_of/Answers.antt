-- What the code gives, and the search over its reduced rows.
use Rattle.std.proofs.Common.{◌≡◌, sym, ap, ap₂, ◌∙◌, ℕ, List, take}
use Rattle.std.proofs.Math.Seq.{take_at}
use Rattle.std.specs.Prelude.{Result, Ok}
use Rattle.coding.specs.Lists.{padded}
use Rattle.coding.specs.Check.{checks}
use Rattle.coding.specs.Weight.{dmin}
use Rattle.coding.specs.Reduce.{reduced_rows}
use Rattle.words.specs.Limits.{max_rows, max_checks}
use Rattle.words.specs.Accepted.{matrix_answer, Accepted}
use Rattle.words.proofs.AcceptedLaws.{accepted_in}
use Rattle.words.proofs.CodeLaws.{rows_are, distance_is}
use Rattle.coding.proofs.EchelonLaws.{reduced_rows_form}
use Rattle.answers.specs.Refusal.{answered, part}
use Rattle.answers.specs.declared.answer.Refusal.{Refusal}
use Rattle.answers.proofs.AnswerLaws.{ok_answered, answered_ok, done_answered, part-answered}
use Rattle.parity.specs.ParityChecks.{CodeOf}
use Rattle.parity.specs.declared.check.Code.{Code}
use Rattle.distance.specs.Distance.{DistanceOf}
use Rattle.distance.specs.declared.distance.Distance.{Distance}
use Rattle.distance.specs.Inner.LeastSum.{ReducedMatrix}
use Rattle.distance.proofs.LeastSumLaws.{reduced_matrix, dmin_reduced}
use Rattle.distance.proofs.distance.distance_of.Goals as goal

-- the reduced rows of an accepted matrix, and the minimum distance by them
module _ (n k : ℕ) (rows : List ℕ) (A : Accepted n k rows) where
  matrix : ReducedMatrix (reduced_rows n rows)
  matrix = reduced_matrix _ _ _ A (reduced_rows n rows) _ (reduced_rows_form n rows A.inside) (rows_are n k rows A)

  distance : dmin (reduced_rows n rows) ≡ dmin rows
  distance = dmin_reduced _ _ _ A (reduced_rows n rows) _ (reduced_rows_form n rows A.inside) (rows_are n k rows A)

  -- they stand in front of zeros
  first_are : (l : List ℕ) → l ≡ padded max_rows (reduced_rows n rows) → take k l ≡ reduced_rows n rows
  first_are l e = ap (take k) e ∙ take_at (reduced_rows n rows) _ k (rows_are n k rows A)

-- what is answered for a matrix whose code is known
promised : {n k : ℕ} {rows : List ℕ} {q : Result Code Refusal} → CodeOf n k rows q → (r : Result Distance Refusal)
    → r ≡ answered (matrix_answer n k rows) (record { checks = padded max_checks (checks n rows); dmin = dmin rows }) → DistanceOf n k rows r
promised {n} {k} {rows} {q} C r e =
    let a = matrix_answer n k rows in
    let same : part (λ (x : Code). x.checks) q ≡ part (λ (x : Distance). x.checks) r
    = part-answered (λ (x : Code). x.checks) a _ q C.is ∙ sym (part-answered (λ (x : Distance). x.checks) a _ r e) in
    record {
      is = e;
      checks = rw same at C.checks;
      distance = λ d. distance_is n k rows (accepted_in n k rows (done_answered a _ r e d));
    }

pub least_weight-requires : goal.least_weight-requires
least_weight-requires c =
    let m = c.args.matrix.now in
    let (d, x) = answered_ok (matrix_answer m.n m.k m.rows.now) _ _ (sym c.in_ok-c.was ∙ c.code_of.ensures.is) in
    let A = accepted_in _ _ _ d in
    rw (first_are _ _ _ A _ (ap (λ y. y.rows) x)) (matrix _ _ _ A)

pub returns : goal.returns
returns c =
    let m = c.args.matrix.now in
    let (d, x) = answered_ok (matrix_answer m.n m.k m.rows.now) _ _ (sym c.in_ok-c.was ∙ c.code_of.ensures.is) in
    let A = accepted_in _ _ _ d in
    let e = c.least_weight.ensures ∙ ap dmin (first_are _ _ _ A _ (ap (λ y. y.rows) x)) ∙ distance _ _ _ A in
    promised c.code_of.ensures _
    (ap₂ (λ (y : List ℕ) (z : ℕ). Ok (record { checks = y; dmin = z })) (ap (λ y. y.checks) x) e ∙ ok_answered _ _ d)
