-- 01, part 1: the reduced rows listed by pivot, with the message of each.
use Rattle.std.specs.Prelude.{◌≡◌, List, map, ℕ, Result, IsOk, IfOk}
use Rattle.coding.specs.Lists.{padded}
use Rattle.coding.specs.Matrix.{message_of}
use Rattle.coding.specs.Reduce.{reduce, reduced_rows, pivots}
use Rattle.coding.specs.Reduced.{ByPivot, Traced}
use Rattle.words.specs.Limits.{max_rows, width}
use Rattle.answers.specs.Refusal.{answered, part}
use Rattle.answers.specs.declared.answer.Refusal.{Refusal}
use Rattle.words.specs.Accepted.{matrix_answer}
use Rattle.linear.specs.ReducedRows.{ReducedRowsOf}
use Rattle.linear.specs.declared.reduction.Reduction.{Reduction}

-- the message of the reduced row of each pivot, 0 where a place is no pivot
abbrev pub messages_by_pivot : List ℕ → List ℕ
messages_by_pivot rows = map (message_of rows) (reduce width rows)

-- entry p of the messages is the message whose codeword is the reduced row with the pivot p, 0 where p is no pivot; `reduce width rows` is
-- the table by place, reduced row i at pivot i and 0 elsewhere
pub record MessagesByPivot (n : ℕ) (rows : List ℕ) (r : Result (List ℕ) Refusal) : Type 0 where
  pub are : IfOk r (λ m. m ≡ messages_by_pivot rows)
  pub by_pivot : IsOk r → ByPivot width (reduced_rows n rows) (pivots n rows) (reduce width rows)
  pub traced : IfOk r (λ m. Traced rows m (reduce width rows))

-- causes 1 to 4; past them the reduced rows; in the table the same by pivot, and 0 elsewhere; their messages
pub record ReductionOf (n k : ℕ) (rows : List ℕ) (r : Result Reduction Refusal) : Type 0 where
  pub is : r ≡ answered (matrix_answer n k rows) (record {
    rows = padded max_rows (reduced_rows n rows);
    table = reduce width rows;
    messages = messages_by_pivot rows;
  })
  pub reduced : ReducedRowsOf n k rows (part (λ x. x.rows) r)
  pub messages : MessagesByPivot n rows (part (λ x. x.messages) r)
