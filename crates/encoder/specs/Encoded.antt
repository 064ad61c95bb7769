-- 01, Encode: its answer and what the lent list holds at the end.
use Rattle.std.specs.Prelude.{◌≡◌, List, map, ℕ, ◌^◌, ◌<◌, length}
use Rattle.coding.specs.Word.{bit, parity}
use Rattle.coding.specs.Matrix.{encode, message_of}
use Rattle.coding.specs.Check.{column}
use Rattle.answers.specs.Refusal.{Answer, and_then, on_done}
use Rattle.words.specs.Widest.{EveryRow}
use Rattle.words.specs.Lists.{list_answer}
use Rattle.words.specs.Accepted.{matrix_answer, Accepted}

-- causes 1 to 4 and 6 to 8
abbrev pub encode_answer : ℕ → ℕ → List ℕ → List ℕ → ℕ → Answer
encode_answer n k rows messages slots = and_then (matrix_answer n k rows) (list_answer messages k slots)

-- slot i holds the codeword of message i, every later slot and on a refusal every slot is as it was; at 32 places every number is a row, so
-- that 3 never arises (02, No. 7); and for an accepted matrix the message comes back from its codeword
pub record Encoded (n k : ℕ) (rows messages before : List ℕ) (r : Answer) (after : List ℕ) : Type 0 where
  pub answer : r ≡ encode_answer n k rows messages (length before)
  pub every_row : EveryRow n r
  pub slots : after ≡ on_done r (map (encode rows) messages) before
  pub product : (u q : ℕ) → bit (encode rows u) q ≡ parity u (column rows q)
  pub back : Accepted n k rows → (u : ℕ) → u < 2 ^ k → message_of rows (encode rows u) ≡ u
