-- 01, part 8: what the Golay encoder answers.
use Rattle.std.specs.Prelude.{◌≡◌, ℕ, ◌^◌, ◌<◌, ltb, Result}
use Rattle.coding.specs.Matrix.{encode, message_of}
use Rattle.answers.specs.Refusal.{unless, answered, Answer, done}
use Rattle.answers.specs.declared.answer.Refusal.{Refusal}
use Rattle.answers.specs.declared.answer.Refusal.TheVariants.{WordOutside}
use Rattle.golay_code.specs.Golay.{golay_rows}

-- cause 7: a message with a one outside its 12 places
abbrev pub encode_answer : ℕ → Answer
encode_answer u = unless (ltb u (2 ^ 12)) (WordOutside 0) done

-- a message of 12 places has the codeword that its rows of G sum to, any other is refused; each message comes back from its codeword
pub record Encoded (u : ℕ) (r : Result ℕ Refusal) : Type 0 where
  pub is : r ≡ answered (encode_answer u) (encode golay_rows u)
  pub back : (v : ℕ) → v < 2 ^ 12 → message_of golay_rows (encode golay_rows v) ≡ v
