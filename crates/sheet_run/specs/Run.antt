-- What a run leaves in the lent list.
use Rattle.std.specs.Prelude.{◌≡◌, List, ◌++◌, cond, ℕ, ◌≤◌, leb, length, take, drop}
use Rattle.lines.specs.Put.{max_output}
use Rattle.sheet_run.specs.Output.{output_of}
use Rattle.sheet_run.specs.Closed.{Closed, EveryWordShown}

-- where the list has room, its first r slots are the output and the others are as they were; else all are, and r is 0. The last line of an
-- output that is no refusal says what its word lines show, and none is a refusal under 3 or 7 where n is 32
pub record Ran (sheet before : List ℕ) (r : ℕ) (after : List ℕ) : Type 0 where
  pub count : r ≡ cond (leb max_output (length before)) (length (output_of sheet)) 0
  pub list : after ≡ cond (leb max_output (length before)) (output_of sheet ++ drop (length (output_of sheet)) before) before
  pub closing : max_output ≤ length before → Closed sheet (take r after)
  pub every_word : max_output ≤ length before → EveryWordShown sheet (take r after)
