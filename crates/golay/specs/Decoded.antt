-- 01, parts 6 and 8, and 00's demand 3: what the Golay decoder answers.
use Rattle.std.specs.Prelude.{◌≡◌, ◌↔◌, ℕ, ◌^◌, ltb, Result, IfOk}
use Rattle.coding.specs.Word.{distance}
use Rattle.coding.specs.Matrix.{Codeword}
use Rattle.coding.specs.Weight.{MinimumDistance}
use Rattle.coding.specs.Radius.{RadiusRules}
use Rattle.answers.specs.Refusal.{unless, answered, Answer, done}
use Rattle.answers.specs.declared.answer.Refusal.{Refusal}
use Rattle.answers.specs.declared.answer.Refusal.TheVariants.{WordOutside}
use Rattle.outcomes.specs.Outcome.{corrected, decoded_as}
use Rattle.outcomes.specs.declared.ending.Reading.TheVariants.{Within}
use Rattle.outcomes.specs.declared.ending.Correction.{Correction}
use Rattle.outcomes.specs.declared.ending.Outcome.{Outcome}
use Rattle.outcomes.specs.declared.ending.Outcome.TheVariants.{Clean}
use Rattle.golay_code.specs.Golay.{golay_rows}

-- how a received word ends: as Decode ends it with the Golay matrix, within radius 3
unfoldable pub golay_outcome : ℕ → Outcome ℕ
golay_outcome w = decoded_as 24 golay_rows (Within 3) w

-- cause 7: a word with a one outside its 24 places
abbrev pub decode_answer : ℕ → Answer
decode_answer w = unless (ltb w (2 ^ 24)) (WordOutside 0) done

-- a word of 24 places is answered by the word and the count of its outcome, any other is refused. The radius rules hold of every word,
-- and a word is clean exactly when its count is 0
pub record Decoded (w : ℕ) (r : Result (Correction ℕ) Refusal) : Type 0 where
  pub is : r ≡ answered (decode_answer w) (corrected (golay_outcome w) w)
  pub apart : MinimumDistance 24 golay_rows 8
  pub within : IfOk r (λ c. RadiusRules ℕ (Codeword golay_rows) distance 8 3 w c.word c.count (c.count ≡ 255))
  pub clean : IfOk r (λ c. (c.count ≡ 0) ↔ (golay_outcome w ≡ Clean w))
