-- 01, part 1: what the call for the reduced rows answers.
use Rattle.std.specs.Prelude.{◌≡◌, List, ℕ, length, Result, IsOk}
use Rattle.coding.specs.Lists.{padded}
use Rattle.coding.specs.Reduced.{ReducedForm}
use Rattle.coding.specs.Reduce.{reduced_rows, pivots}
use Rattle.words.specs.Limits.{max_rows}
use Rattle.answers.specs.Refusal.{answered, answer_of}
use Rattle.words.specs.Widest.{EveryRow}
use Rattle.words.specs.Accepted.{matrix_answer}
use Rattle.answers.specs.declared.answer.Refusal.{Refusal}

-- causes 1 to 4, at 32 places never 3; past them the k reduced rows and 0 after them; and for an accepted matrix these rows are its reduced
-- row echelon form, the only one
pub record ReducedRowsOf (n k : ℕ) (rows : List ℕ) (r : Result (List ℕ) Refusal) : Type 0 where
  pub is : r ≡ answered (matrix_answer n k rows) (padded max_rows (reduced_rows n rows))
  pub every_row : EveryRow n (answer_of r)
  pub count : IsOk r → length (reduced_rows n rows) ≡ k
  pub form : IsOk r → ReducedForm rows (reduced_rows n rows) (pivots n rows)
  pub only : IsOk r → (A P : List ℕ) → ReducedForm rows A P → (A ≡ reduced_rows n rows) × (P ≡ pivots n rows)
