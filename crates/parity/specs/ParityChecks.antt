-- 01, part 2: what the call for the parity-check rows answers.
use Rattle.std.specs.Prelude.{◌≡◌, ◌↔◌, List, ℕ, ◌+◌, ◌^◌, ◌<◌, length, get_or, Result, IsOk, IfOk}
use Rattle.coding.specs.Lists.{padded}
use Rattle.coding.specs.Matrix.{Codeword}
use Rattle.coding.specs.Reduce.{reduced_rows, pivots}
use Rattle.coding.specs.Check.{checks, frees, FreePlaces, CheckRow, syndrome}
use Rattle.words.specs.Limits.{max_rows, max_checks}
use Rattle.answers.specs.Refusal.{answered, answer_of, part}
use Rattle.answers.specs.declared.answer.Refusal.{Refusal}
use Rattle.words.specs.Widest.{EveryRow}
use Rattle.words.specs.Accepted.{matrix_answer}
use Rattle.linear.specs.ReducedRows.{ReducedRowsOf}
use Rattle.linear.specs.Reduction.{messages_by_pivot, MessagesByPivot}
use Rattle.parity.specs.declared.check.Code.{Code}

-- causes 1 to 4, at 32 places never 3; past them the n - k check rows and 0 after them; and for an accepted matrix they are the check rows of
-- its places that are no pivot, and a word of n places is a codeword exactly when its syndrome by them is 0
pub record ParityChecksOf (n k : ℕ) (rows : List ℕ) (r : Result (List ℕ) Refusal) : Type 0 where
  pub is : r ≡ answered (matrix_answer n k rows) (padded max_checks (checks n rows))
  pub every_row : EveryRow n (answer_of r)
  pub count : IsOk r → length (frees n rows) + k ≡ n
  pub free : IsOk r → FreePlaces n (pivots n rows) (frees n rows)
  pub check_rows : IsOk r → (j : ℕ) → j < length (frees n rows)
      → CheckRow n (reduced_rows n rows) (pivots n rows) (frees n rows) (get_or (frees n rows) j 0) (get_or (checks n rows) j 0)
  pub codewords : IfOk r (λ hs. (w : ℕ) → w < 2 ^ n → (syndrome hs w ≡ 0) ↔ Codeword rows w)

-- parts 1 and 2 together: the reduced rows, the check rows, and by pivot the messages of the reduced rows
pub record CodeOf (n k : ℕ) (rows : List ℕ) (r : Result Code Refusal) : Type 0 where
  pub is : r ≡ answered (matrix_answer n k rows) (record {
    rows = padded max_rows (reduced_rows n rows);
    checks = padded max_checks (checks n rows);
    messages = messages_by_pivot rows;
  })
  pub reduced : ReducedRowsOf n k rows (part (λ c. c.rows) r)
  pub checks : ParityChecksOf n k rows (part (λ c. c.checks) r)
  pub messages : MessagesByPivot n rows (part (λ c. c.messages) r)
