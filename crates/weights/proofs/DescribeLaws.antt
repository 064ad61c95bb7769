-- Laws of Describe: what is answered for a matrix whose weights are those of the definitions.
use mathlib.Core.Path.{◌≡◌, sym, ap, ◌∙◌}
use mathlib.Core.List.{List}
use Prim.Native.Nat.{ℕ, ◌+◌, ◌^◌}
use native.Mathlib.Omega.{arith}
use lib.ListN.{length, length-map}
use Rattle.std.specs.Prelude.{Result, IsOk}
use Rattle.coding.specs.Lists.{padded}
use Rattle.coding.specs.Reduce.{reduce, reduced_rows}
use Rattle.coding.specs.Check.{check, checks, frees}
use Rattle.coding.proofs.LightestCodewordLaws.{lightest-codeword, lightest-one_code}
use Rattle.coding.proofs.DualLaws.{macwilliams_is}
use Rattle.coding.proofs.WeightCountLaws.{weight_counts-total}
use Rattle.words.specs.Limits.{max_rows, max_checks}
use Rattle.words.specs.Widest.{EveryRow}
use Rattle.answers.specs.Refusal.{answered, answer_of, part}
use Rattle.answers.specs.declared.answer.Refusal.{Refusal}
use Rattle.answers.proofs.AnswerLaws.{answer_of-answered, done_answered, if_answered, part-answered}
use Rattle.words.specs.Accepted.{matrix_answer, Accepted}
use Rattle.words.proofs.ShapeLaws.{every_row_answered}
use Rattle.words.proofs.AcceptedLaws.{accepted_in}
use Rattle.words.proofs.CodeLaws.{frees_are, distance_is}
use Rattle.parity.specs.ParityChecks.{CodeOf}
use Rattle.parity.specs.declared.check.Code.{Code}
use Rattle.weights.specs.Description.{weights, WeightsOf, DescriptionOf}
use Rattle.weights.specs.declared.weights.Weights.{Weights}
use Rattle.weights.specs.declared.description.Description.{Description}

pub weights_lem : (n k : ℕ) (rows : List ℕ) → EveryRow n (matrix_answer n k rows) → (r : Result Weights Refusal)
    → r ≡ answered (matrix_answer n k rows) (weights n rows) → WeightsOf n k rows r
weights_lem n k rows w r e = record {
  is = e;
  every_row = rw (ap answer_of e ∙ answer_of-answered (matrix_answer n k rows) _) w;
  distance = λ d. distance_is n k rows (accepted d);
  sum = λ d. let A = accepted d in weight_counts-total n rows A.inside A.independent ∙ ap (λ (x : ℕ). 2 ^ x) A.count;
  lightest = if_answered (matrix_answer n k rows) _ _ r e (λ d.
      let A = accepted_in n k rows d in
      lightest-codeword n rows A.inside (distance_is n k rows A));
  dual = λ d. let A = accepted d in macwilliams_is n rows A.inside (dimension A);
  everywhere = if_answered (matrix_answer n k rows) _ _ r e (λ d others s. lightest-one_code n rows others s);
}
  where
    accepted : IsOk r → Accepted n k rows
    accepted d = accepted_in n k rows (done_answered (matrix_answer n k rows) _ r e d)

    dimension : Accepted n k rows → length (checks n rows) + length rows ≡ n
    dimension A = omega (arith, length-map (frees n rows) (check (reduce n rows)), frees_are n k rows A, A.count)

-- what is answered for a matrix whose code is known
pub description_lem : {n k : ℕ} {rows : List ℕ} {q : Result Code Refusal} → CodeOf n k rows q → (r : Result Description Refusal)
    → r ≡ answered (matrix_answer n k rows) (record { rows = padded max_rows (reduced_rows n rows); checks = padded max_checks (checks n rows); weights = weights n rows })
    → DescriptionOf n k rows r
description_lem {n} {k} {rows} {q} C r e =
    let a = matrix_answer n k rows in
    let w = every_row_answered {n = n} _ (part (λ (x : Code). x.rows) q) a C.reduced.is C.reduced.every_row in
    let first : part (λ (x : Code). x.rows) q ≡ part (λ (x : Description). x.rows) r
    = part-answered (λ (x : Code). x.rows) a _ q C.is ∙ sym (part-answered (λ (x : Description). x.rows) a _ r e) in
    let second : part (λ (x : Code). x.checks) q ≡ part (λ (x : Description). x.checks) r
    = part-answered (λ (x : Code). x.checks) a _ q C.is ∙ sym (part-answered (λ (x : Description). x.checks) a _ r e) in
    record {
      is = e;
      reduced = rw first at C.reduced;
      checks = rw second at C.checks;
      weights = weights_lem n k rows w _ (part-answered (λ (x : Description). x.weights) a _ r e);
    }
