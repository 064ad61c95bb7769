-- How a call tells its answer to a program in another language: 0 or the number of the cause, and the value beside it.
use Rattle.std.specs.Prelude.{◌≡◌, ℕ, Result, Err}
use Rattle.answers.specs.declared.answer.Refusal.{Refusal}
use Rattle.answers.specs.Refusal.{number_of, value_of, Answer, done, answered}

abbrev pub number_in : Answer → ℕ
number_in done = 0
number_in (Err c) = number_of c

abbrev pub value_in : Answer → ℕ
value_in done = 0
value_in (Err c) = value_of c

-- number and value are those of the answer, which a definition gives, and the statement of the operation holds of it
pub record Told (holds : Answer → Type 0) (answer : Answer) (number value : ℕ) : Type 0 where
  pub number_is : number ≡ number_in answer
  pub value_is : value ≡ value_in answer
  pub holds_of : holds answer

-- what is written for a call that gives a value: x, of which the statement of the operation holds, and on a refusal `none` in its place
pub record Wrote {A : Type 0} (holds : Result A Refusal → Type 0) (none x : A) (answer : Answer) : Type 0 where
  pub holds_of : holds (answered answer x)
  pub refused : (c : Refusal) → answer ≡ Err c → x ≡ none
