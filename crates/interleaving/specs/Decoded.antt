-- 02, No. 5, the decode within a radius after sorting back: its answer, what every lent list holds at the end, and bursts.
use Rattle.std.specs.Prelude.{◌≡◌, ◌⊎◌, List, ℕ, length, Err}
use Rattle.coding.specs.Matrix.{Codeword}
use Rattle.coding.specs.Interleaving.{sorted_words, BurstRule}
use Rattle.answers.specs.Refusal.{number_of, Between, Answer, done}
use Rattle.words.specs.Widest.{EveryRow}
use Rattle.answers.specs.declared.answer.Refusal.{Refusal}
use Rattle.outcomes.specs.declared.ending.Reading.TheVariants.{Within}
use Rattle.decoder.specs.Decoded.{Batch, Lent, Decoded}
use Rattle.interleaving.specs.Causes.{interleaved_answer}

-- what the decode is given: the matrix, the radius, the depth and the received bits
pub record Received : Type 0 where
  pub n : ℕ
  pub k : ℕ
  pub rows : List ℕ
  pub radius : ℕ
  pub depth : ℕ
  pub bits : List ℕ

-- the batch that they say: the words sorted back, to be read within the radius
abbrev pub sorted_batch : Received → Batch
sorted_batch R = record { n = R.n; k = R.k; rows = R.rows; reading = Within R.radius; words = sorted_words R.n R.depth R.bits }

-- its numbers: 1 to 5, 8 and 9, 16 and 17
abbrev pub InterleavedNumber : ℕ → Type 0
InterleavedNumber m = Between 1 5 m ⊎ Between 8 9 m ⊎ Between 16 17 m

-- the decode either refuses under one of these, at 32 places never under 3, with every list unchanged, or succeeds. Then everything that
-- Decode promises holds of the words sorted back, demand 3 of each of them, and a burst of depth times radius places is mended
pub record DecodedInterleaved (R : Received) (before : Lent) (r : Answer) (after : Lent) : Type 0 where
  pub answer : r ≡ interleaved_answer R.n R.k R.rows R.radius R.depth R.bits
      (length before.codewords) (length before.counts) (length before.work)
  pub either : ((c : Refusal) × (r ≡ Err c) × InterleavedNumber (number_of c) × (after ≡ before)) ⊎ (r ≡ done)
  pub every_row : EveryRow R.n r
  pub each : r ≡ done → Decoded (sorted_batch R) before r after
  pub bursts : r ≡ done → BurstRule (Codeword R.rows) R.n R.depth R.radius R.bits after.codewords after.counts
