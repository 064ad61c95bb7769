-- 02, No. 3: what decoding with a width answers, and 00's demand 3 at r = 1, dmin = 4.
use Rattle.std.specs.Prelude.{◌≡◌, ℕ, Result, IfOk}
use Rattle.answers.specs.Refusal.{done, answered}
use Rattle.answers.specs.declared.answer.Refusal.{Refusal}
use Rattle.hsiao.specs.Outcome.{outcome_by}
use Rattle.outcomes.specs.Outcome.{corrected}
use Rattle.hsiao.specs.Decoded.{DecodedBy}
use Rattle.hsiao.specs.Widths.Code.{checks_of, columns_of}
use Rattle.hsiao.specs.Widths.Causes.{word_answer}
use Rattle.hsiao.specs.declared.word.Word.{Word}
use Rattle.outcomes.specs.declared.ending.Outcome.{Outcome}
use Rattle.outcomes.specs.declared.ending.Correction.{Correction}

-- how a received word ends in the code of a width
abbrev pub width_outcome : ℕ → Word → Outcome Word
width_outcome width w = outcome_by (checks_of width) (columns_of width) w

-- a word within the width is answered by the word and the count of its outcome, with the promises of Decode at radius 1: minimum distance
-- 4, the radius rules, clean and far
pub record Decoded (width : ℕ) (w : Word) (r : Result (Correction Word) Refusal) : Type 0 where
  pub is : r ≡ answered (word_answer width w done) (corrected (width_outcome width w) w)
  pub decoded : IfOk r (DecodedBy (checks_of width) (columns_of width) w)
