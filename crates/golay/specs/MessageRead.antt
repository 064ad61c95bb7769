-- 01, part 8: what reading a Golay codeword back answers.
use Rattle.std.specs.Prelude.{◌≡◌, ℕ, ◌/◌, ◌^◌, ltb, Result}
use Rattle.coding.specs.Matrix.{Codeword, IsMessage, message_of, is_codeword}
use Rattle.answers.specs.Refusal.{unless, answered, Answer, done}
use Rattle.answers.specs.declared.answer.Refusal.{Refusal}
use Rattle.answers.specs.declared.answer.Refusal.TheVariants.{WordOutside, NoCodeword}
use Rattle.golay_code.specs.Golay.{golay_rows}

-- cause 7: a word with a one outside its 24 places; then cause 10: one that is no codeword
abbrev pub message_answer : ℕ → Answer
message_answer w = unless (ltb w (2 ^ 24)) (WordOutside 0) (unless (is_codeword golay_rows w) (NoCodeword 0) done)

-- a codeword has its message, which is its places 12 to 23 and the only one; any other word is refused
pub record MessageRead (w : ℕ) (r : Result ℕ Refusal) : Type 0 where
  pub is : r ≡ answered (message_answer w) (message_of golay_rows w)
  pub one : Codeword golay_rows w → IsMessage golay_rows w (message_of golay_rows w)
  pub places : Codeword golay_rows w → message_of golay_rows w ≡ w / 2 ^ 12
