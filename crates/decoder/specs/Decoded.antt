-- 01, Decode: its answer, what every lent list holds at the end, and 00's demand 3.
use Rattle.std.specs.Prelude.{◌≡◌, ◌↔◌, ◌⊎◌, List, map, ℕ, ◌-◌, ◌^◌, ◌<◌, length, get_or, Err}
use Rattle.coding.specs.Word.{distance}
use Rattle.coding.specs.Matrix.{Codeword}
use Rattle.coding.specs.Weight.{dmin, MinimumDistance}
use Rattle.coding.specs.Leader.{IsLeader, EveryLeader}
use Rattle.coding.specs.Radius.{NearestRule, RadiusRules}
use Rattle.answers.specs.Refusal.{Answer, done, number_of, Between, on_done}
use Rattle.words.specs.Widest.{EveryWord}
use Rattle.words.specs.Accepted.{Accepted}
use Rattle.answers.specs.declared.answer.Refusal.{Refusal}
use Rattle.leaders.specs.Leaders.{leaders_list}
use Rattle.outcomes.specs.Outcome.{decoded_as, word_of, count_of}
use Rattle.decoder.specs.Causes.{decode_answer}
use Rattle.outcomes.specs.declared.ending.Reading.{Reading}
use Rattle.outcomes.specs.declared.ending.Reading.TheVariants.{Nearest, Within}
use Rattle.outcomes.specs.declared.ending.Outcome.TheVariants.{Clean}

-- what Decode is given: the matrix, the reading and the received words
pub record Batch : Type 0 where
  pub n : ℕ
  pub k : ℕ
  pub rows : List ℕ
  pub reading : Reading
  pub words : List ℕ

-- the lists lent to it
pub record Lent : Type 0 where
  pub codewords : List ℕ
  pub counts : List ℕ
  pub work : List ℕ

-- Decode either refuses under 1 to 9 with every list unchanged, or succeeds; at 32 places every number is a word, so that 3 and 7 never
-- arise (02, No. 7). Every syndrome of an accepted matrix has a leader (02, No. 6). On success slot i of the codewords and of the
-- counts is the answer to word i, 255 meaning far, the working list holds the leaders, and later slots are as they were; dmin is the
-- minimum distance, demand 3 holds of every word of the batch, in either reading, and a word is clean exactly when its count is 0
pub record Decoded (B : Batch) (before : Lent) (r : Answer) (after : Lent) : Type 0 where
  pub answer : r ≡ decode_answer B.n B.k B.rows B.reading B.words (length before.codewords) (length before.counts) (length before.work)
  pub either : ((c : Refusal) × (r ≡ Err c) × Between 1 9 (number_of c) × (after ≡ before)) ⊎ (r ≡ done)
  pub every_word : EveryWord B.n r
  pub every_leader : Accepted B.n B.k B.rows → EveryLeader B.n B.rows (B.n - B.k)
  pub codewords : after.codewords ≡ on_done r (map (word_of B.n B.rows B.reading) B.words) before.codewords
  pub distances : after.counts ≡ on_done r (map (count_of B.n B.rows B.reading) B.words) before.counts
  pub leaders : after.work ≡ on_done r (leaders_list B.n B.k B.rows) before.work
  pub leader : r ≡ done → (s : ℕ) → s < 2 ^ (B.n - B.k) → IsLeader B.n B.rows s (get_or after.work s 0)
  pub minimum : r ≡ done → MinimumDistance B.n B.rows (dmin B.rows)
  pub nearest : r ≡ done → B.reading ≡ Nearest → (i : ℕ) → i < length B.words
      → NearestRule ℕ (Codeword B.rows) distance (get_or B.words i 0) (get_or after.codewords i 0) (get_or after.counts i 0)
  pub within : r ≡ done → (ρ : ℕ) → B.reading ≡ Within ρ → (i : ℕ) → i < length B.words
      → RadiusRules ℕ (Codeword B.rows) distance (dmin B.rows) ρ (get_or B.words i 0) (get_or after.codewords i 0) (get_or after.counts i 0)
      (get_or after.counts i 0 ≡ 255)
  pub clean : r ≡ done → (i : ℕ) → i < length B.words
      → (get_or after.counts i 0 ≡ 0) ↔ (decoded_as B.n B.rows B.reading (get_or B.words i 0) ≡ Clean (get_or B.words i 0))
