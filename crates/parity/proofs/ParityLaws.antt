-- Laws of the check rows that are read off the table of an accepted matrix: they are those of the definitions in n places, and tell
-- the codewords.
use mathlib.Core.Path.{◌≡◌, sym, ap, ◌∙◌}
use mathlib.Core.List.{List, map}
use Prim.Native.Nat.{ℕ, ◌-◌, ◌^◌, ◌≤◌}
use native.Mathlib.Omega.{arith}
use lib.ListN.{length, get_or, take}
use Rattle.coding.specs.Lists.{padded}
use Rattle.coding.specs.Word.{◌⊕◌}
use Rattle.coding.specs.Reduce.{reduce, reduced_rows, frees_from}
use Rattle.coding.specs.Check.{check, column, checks}
use Rattle.coding.proofs.ListLaws.{map_same}
use Rattle.coding.proofs.CheckRowLaws.{free_places, check_rows}
use Rattle.coding.proofs.WidthLaws.{column-zeros}
use Rattle.words.specs.Limits.{max_rows, max_checks}
use Rattle.answers.specs.Refusal.{answered, answer_of, part}
use Rattle.answers.specs.declared.answer.Refusal.{Refusal}
use Rattle.answers.proofs.AnswerLaws.{answer_of-answered, done_answered, if_answered, part-answered}
use Rattle.words.proofs.ShapeLaws.{every_row_answered}
use Rattle.std.specs.Prelude.{Result, IsOk}
use Rattle.words.specs.Widest.{EveryRow}
use Rattle.words.specs.Accepted.{matrix_answer, Accepted}
use Rattle.words.proofs.AcceptedLaws.{accepted_in}
use Rattle.words.proofs.CodeLaws.{codeword-syndrome, frees_are}
use Rattle.linear.specs.Reduction.{messages_by_pivot, ReductionOf}
use Rattle.linear.specs.declared.reduction.Reduction.{Reduction}
use Rattle.parity.specs.ParityChecks.{ParityChecksOf, CodeOf}
use Rattle.parity.specs.declared.check.Code.{Code}
use Rattle.linear.proofs.PivotTableLaws.{wide, table_take, reduced_rows_lem}

module _ (n k : ℕ) (rows : List ℕ) (A : Accepted n k rows) (table : List ℕ) (is : table ≡ reduce 32 rows) where
  pub checks_few : length (frees_from 0 (take n table)) ≤ max_checks
  checks_few = rw (table_take n k rows A table is) (omega (arith, frees_are n k rows A, A.range.checks))

  pub checks_are : map (check table) (frees_from 0 (take n table)) ≡ checks n rows
  checks_are =
      ap (λ (l : List ℕ). map (check table) (frees_from 0 l)) (table_take n k rows A table is)
      ∙ map_same (check table) (check (reduce n rows)) (frees_from 0 (reduce n rows)) (λ i h. same (get_or (frees_from 0 (reduce n rows)) i 0))
    where
      same : (q : ℕ) → check table q ≡ check (reduce n rows) q
      same q = ap (λ (x : ℕ). 2 ^ q ⊕ x) (ap (λ (l : List ℕ). column l q) (wide n k rows A table is) ∙ column-zeros (reduce n rows) (32 - n) q)

-- the check rows of an accepted matrix are those of its places that are no pivot, and tell the codewords
pub parity-checks : (n k : ℕ) (rows : List ℕ) → EveryRow n (matrix_answer n k rows) → (r : Result (List ℕ) Refusal)
    → r ≡ answered (matrix_answer n k rows) (padded max_checks (checks n rows)) → ParityChecksOf n k rows r
parity-checks n k rows w r e = record {
  is = e;
  every_row = rw (ap answer_of e ∙ answer_of-answered (matrix_answer n k rows) _) w;
  count = λ d. frees_are n k rows (accepted d);
  free = λ d. free_places n rows (accepted d).inside;
  check_rows = λ d. check_rows n rows (accepted d).inside;
  codewords = if_answered (matrix_answer n k rows) _ _ r e (λ d. codeword-syndrome n k rows (accepted_in n k rows d));
}
  where
    accepted : IsOk r → Accepted n k rows
    accepted d = accepted_in n k rows (done_answered (matrix_answer n k rows) _ r e d)

-- what is answered for a matrix of which the reduction is known
pub code_lem : {n k : ℕ} {rows : List ℕ} {q : Result Reduction Refusal} → ReductionOf n k rows q → (r : Result Code Refusal)
    → r ≡ answered (matrix_answer n k rows) (record { rows = padded max_rows (reduced_rows n rows); checks = padded max_checks (checks n rows); messages = messages_by_pivot rows })
    → CodeOf n k rows r
code_lem {n} {k} {rows} {q} R r e =
    let a = matrix_answer n k rows in
    let w = every_row_answered {n = n} _ (part (λ (x : Reduction). x.rows) q) a R.reduced.is R.reduced.every_row in
    let same : part (λ (x : Reduction). x.messages) q ≡ part (λ (x : Code). x.messages) r
    = part-answered (λ (x : Reduction). x.messages) a _ q R.is ∙ sym (part-answered (λ (x : Code). x.messages) a _ r e) in
    record {
      is = e;
      reduced = reduced_rows_lem n k rows w _ (part-answered (λ (x : Code). x.rows) a _ r e);
      checks = parity-checks n k rows w _ (part-answered (λ (x : Code). x.checks) a _ r e);
      messages = rw same at R.messages;
    }
