-- 01, Decode of the (72,64) code, and 00's demand 3 at r = 1, dmin = 4; 02, No. 3: the same of a code given by columns.
use Rattle.std.specs.Prelude.{◌≡◌, ◌↔◌, List, ℕ}
use Rattle.coding.specs.Radius.{RadiusRules}
use Rattle.coding.specs.Columns.{SplitWord, split_distance, SplitCodeword, SplitMinimumDistance}
use Rattle.hsiao.specs.Table.{columns, split}
use Rattle.hsiao.specs.Outcome.{outcome_by}
use Rattle.outcomes.specs.Outcome.{word_in, count_in}
use Rattle.hsiao.specs.declared.word.Word.{Word}
use Rattle.outcomes.specs.declared.ending.Correction.{Correction}
use Rattle.outcomes.specs.declared.ending.Outcome.TheVariants.{Clean, Far}

-- for c check places and these data columns: the answer is that of the outcome, with its count, 255 meaning far; the minimum distance is
-- 4, and the radius rules hold at 1; the word is clean exactly when its count is 0, and far exactly when that is 255
pub record DecodedBy (c : ℕ) (cols : List ℕ) (w : Word) (r : Correction Word) : Type 0 where
  pub word : r.word ≡ word_in (outcome_by c cols w) w
  pub count : r.count ≡ count_in (outcome_by c cols w)
  pub minimum : SplitMinimumDistance c cols 4
  pub within : RadiusRules SplitWord (SplitCodeword c cols) split_distance 4 1 (split w) (split r.word) r.count (r.count ≡ 255)
  pub clean : (r.count ≡ 0) ↔ (outcome_by c cols w ≡ Clean w)
  pub far : (r.count ≡ 255) ↔ (outcome_by c cols w ≡ Far)

-- the (72,64) code, of every word
abbrev pub Decoded : Word → Correction Word → Type 0
Decoded w r = DecodedBy 8 columns w r
