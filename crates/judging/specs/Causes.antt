-- Causes 1 to 5: what is asked of the matrix and of the reading.
use Rattle.std.specs.Prelude.{◌≡◌, List, ℕ, ◌+◌, ◌*◌, leb}
use Rattle.coding.specs.Weight.{dmin}
use Rattle.answers.specs.Refusal.{unless, and_then, Answer, done}
use Rattle.words.specs.Widest.{EveryRow}
use Rattle.words.specs.Accepted.{matrix_answer}
use Rattle.answers.specs.declared.answer.Refusal.TheVariants.{RadiusTooLarge}
use Rattle.outcomes.specs.declared.ending.Reading.{Reading}
use Rattle.outcomes.specs.declared.ending.Reading.TheVariants.{Nearest, Within}

-- cause 5: a radius r with 2 r + 1 above dmin
abbrev pub radius_answer : Reading → ℕ → Answer
radius_answer Nearest d = done
radius_answer (Within r) d = unless (leb (2 * r + 1) d) RadiusTooLarge done

-- causes 1 to 5: what is asked of the matrix and of the reading
unfoldable pub code_answer : ℕ → ℕ → List ℕ → Reading → Answer
code_answer n k rows reading = and_then (matrix_answer n k rows) (radius_answer reading (dmin rows))

-- what the call for them answers; at 32 places never 3 (02, No. 7)
pub record CodeJudged (n k : ℕ) (rows : List ℕ) (reading : Reading) (r : Answer) : Type 0 where
  pub answer : r ≡ code_answer n k rows reading
  pub every_row : EveryRow n r
