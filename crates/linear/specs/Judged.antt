-- Causes 1 to 4: what the call that judges a matrix answers.
use Rattle.std.specs.Prelude.{◌≡◌, List, ℕ, take, Err}
use Rattle.coding.specs.Matrix.{Independent, Depends}
use Rattle.words.specs.Widest.{EveryRow}
use Rattle.words.specs.Accepted.{matrix_answer, Accepted}
use Rattle.answers.specs.declared.answer.Refusal.TheVariants.{Dependent}
use Rattle.answers.specs.Refusal.{Answer, done}

-- the answer to a matrix: it is accepted exactly when it meets those demands, the row found by cause 4 is a sum of earlier rows, which
-- are independent, and at 32 places every number is a word, so that cause 3 never arises (02, No. 7)
pub record Judged (n k : ℕ) (rows : List ℕ) (r : Answer) : Type 0 where
  pub answer : r ≡ matrix_answer n k rows
  pub accepted : r ≡ done → Accepted n k rows
  pub accepts : Accepted n k rows → r ≡ done
  pub every_row : EveryRow n r
  pub found : (i : ℕ) → r ≡ Err (Dependent i) → Depends rows i × Independent (take i rows)
