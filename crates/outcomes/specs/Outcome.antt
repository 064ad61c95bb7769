-- 01, part 5: how one word ends, what it leaves in the lists, and the reading.
use Rattle.std.specs.Prelude.{List, Bool, true, cond, ℕ, eqb, leb}
use Rattle.coding.specs.Word.{◌⊕◌, weight}
use Rattle.coding.specs.Leader.{syndrome_of, leader_of}
use Rattle.outcomes.specs.declared.ending.Reading.{Reading}
use Rattle.outcomes.specs.declared.ending.Reading.TheVariants.{Nearest, Within}
use Rattle.outcomes.specs.declared.ending.Correction.{Correction}
use Rattle.outcomes.specs.declared.ending.Outcome.{Outcome}
use Rattle.outcomes.specs.declared.ending.Outcome.TheVariants.{Clean, Mended, Far}

-- whether a reading takes a codeword that differs in d places
abbrev pub takes : Reading → ℕ → Bool
takes Nearest d = true
takes (Within r) d = leb d r

-- the received word w, with the leader e of its syndrome
abbrev pub outcome_of : Reading → ℕ → ℕ → Outcome ℕ
outcome_of reading w e = cond (eqb (weight e) 0) (Clean w) (cond (takes reading (weight e)) (Mended (w ⊕ e) (weight e)) Far)

-- the slot of the codeword list: a far word stays as received
abbrev pub word_in : {W : Type 0} → Outcome W → W → W
word_in (Clean c) w = c
word_in (Mended c d) w = c
word_in Far w = w

-- the slot of the counts: 255 means far
abbrev pub count_in : {W : Type 0} → Outcome W → ℕ
count_in (Clean c) = 0
count_in (Mended c d) = d
count_in Far = 255

-- both, as the word w is answered
abbrev pub corrected : {W : Type 0} → Outcome W → W → Correction W
corrected o w = record { word = word_in o w; count = count_in o }

-- how a received word ends: with the leader of its syndrome
abbrev pub decoded_as : ℕ → List ℕ → Reading → ℕ → Outcome ℕ
decoded_as n rows reading w = outcome_of reading w (leader_of n rows (syndrome_of n rows w))

abbrev pub word_of : ℕ → List ℕ → Reading → ℕ → ℕ
word_of n rows reading w = word_in (decoded_as n rows reading w) w

abbrev pub count_of : ℕ → List ℕ → Reading → ℕ → ℕ
count_of n rows reading w = count_in (decoded_as n rows reading w)
