-- Causes 1 to 4: a matrix is accepted when they pass it.
use Rattle.std.specs.Prelude.{◌≡◌, List, ℕ, length}
use Rattle.coding.specs.Matrix.{Inside, Independent, depends_at}
use Rattle.words.specs.Limits.{InRange}
use Rattle.answers.specs.Refusal.{refuse_first, and_then, Answer, done}
use Rattle.words.specs.Shape.{shape_answer}
use Rattle.answers.specs.declared.answer.Refusal.TheVariants.{Dependent}

-- causes 1 to 4, in order
unfoldable pub matrix_answer : ℕ → ℕ → List ℕ → Answer
matrix_answer n k rows =
    and_then (shape_answer n k rows)
    (refuse_first (depends_at rows) (length rows) Dependent done)

-- what causes 1 to 4 ask of a matrix
pub record Accepted (n k : ℕ) (rows : List ℕ) : Type 0 where
  pub range : InRange n k
  pub count : length rows ≡ k
  pub inside : Inside n rows
  pub independent : Independent rows
