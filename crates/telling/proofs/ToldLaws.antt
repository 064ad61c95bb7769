-- What a call tells, from the answer of the operation below it.
use mathlib.Core.Path.{◌≡◌, sym, ap, ◌∙◌}
use Prim.Native.Nat.{ℕ}
use Rattle.std.specs.Prelude.{Result, Ok, Err}
use Rattle.std.specs.Result.{result_unwrap_or}
use Rattle.answers.specs.declared.answer.Refusal.{Refusal}
use Rattle.answers.specs.Refusal.{Answer, answered, answer_of}
use Rattle.answers.proofs.AnswerLaws.{refused_done, answer_of-answered}
use Rattle.telling.specs.Told.{number_in, value_in, Told, Wrote}

-- a is the answer, and x what the definition gives
pub told : (holds : Answer → Type 0) {a x : Answer} {number value : ℕ} → a ≡ x → holds a → number ≡ number_in a → value ≡ value_in a → Told holds x number value
told holds e h n v = rw (← e) (record { number_is = n; value_is = v; holds_of = h })

-- an answer without a value is its own
pub answer_of-answer : (a : Answer) → answer_of a ≡ a
answer_of-answer (Ok u) = λ i. Ok u
answer_of-answer (Err c) = λ i. Err c

module _ {A : Type 0} (holds : Result A Refusal → Type 0) {none x : A} (v : A) {r : Result A Refusal} where
  -- what is written for a value that the definition gives
  pub wrote : (a : Answer) → r ≡ answered a v → holds r → x ≡ result_unwrap_or r none → Wrote holds none x a
  wrote (Ok u) e h g =
      let same : x ≡ v = g ∙ ap (λ q. result_unwrap_or q none) e in
      record { holds_of = rw (e ∙ ap Ok (sym same)) at h; refused = λ c z. refused_done (sym z) }
  wrote (Err c) e h g = record { holds_of = rw e at h; refused = λ d z. g ∙ ap (λ q. result_unwrap_or q none) e }

  -- and the whole of it
  pub told_value : (a : Answer) {number value : ℕ} → r ≡ answered a v → holds r → number ≡ number_in (answer_of r) → value ≡ value_in (answer_of r)
      → x ≡ result_unwrap_or r none → Told (Wrote holds none x) a number value
  told_value a e h n w g =
      let is : answer_of r ≡ a = ap answer_of e ∙ answer_of-answered a v in
      record { number_is = n ∙ ap number_in is; value_is = w ∙ ap value_in is; holds_of = wrote a e h g }
