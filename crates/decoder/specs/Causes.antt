-- The causes of Decode, in order: 1 to 5, 6 to 8, and 9.
use Rattle.std.specs.Prelude.{List, ℕ, ◌-◌, ◌^◌, min}
use Rattle.answers.specs.Refusal.{Answer, and_then}
use Rattle.words.specs.Lists.{list_answer}
use Rattle.leaders.specs.Leaders.{work_answer}
use Rattle.judging.specs.Causes.{code_answer}
use Rattle.outcomes.specs.declared.ending.Reading.{Reading}

-- causes 6 to 9; both output lists are as long as the words
unfoldable pub lists_answer : ℕ → ℕ → List ℕ → ℕ → ℕ → ℕ → Answer
lists_answer n k words slots bytes room = and_then (list_answer words n (min slots bytes)) (work_answer room (2 ^ (n - k)))

-- causes 1 to 9: all causes of Decode
unfoldable pub decode_answer : ℕ → ℕ → List ℕ → Reading → List ℕ → ℕ → ℕ → ℕ → Answer
decode_answer n k rows reading words slots bytes room = and_then (code_answer n k rows reading) (lists_answer n k words slots bytes room)
