-- 01, Message: its answer and what the lent list holds at the end.
use Rattle.std.specs.Prelude.{◌≡◌, List, map, Bool, not, ℕ, ◌^◌, ◌<◌, length, get_or}
use Rattle.coding.specs.Matrix.{encode, Codeword, IsMessage, message_of, is_codeword}
use Rattle.answers.specs.Refusal.{Answer, done, refuse_first, and_then, on_done}
use Rattle.words.specs.Widest.{EveryWord}
use Rattle.words.specs.Accepted.{matrix_answer, Accepted}
use Rattle.words.specs.Lists.{list_answer}
use Rattle.answers.specs.declared.answer.Refusal.TheVariants.{NoCodeword}

-- word i is no codeword
abbrev pub other : List ℕ → List ℕ → ℕ → Bool
other rows words i = not (is_codeword rows (get_or words i 0))

-- causes 1 to 4, 6 to 8, and 10
abbrev pub message_answer : ℕ → ℕ → List ℕ → List ℕ → ℕ → Answer
message_answer n k rows words slots =
    and_then (matrix_answer n k rows)
    (and_then (list_answer words n slots) (refuse_first (other rows words) (length words) NoCodeword done))

-- slot i holds the message of codeword i, every later slot and on a refusal every slot is as it was; at 32 places every number is a
-- word, so that 3 and 7 never arise (02, No. 7); for an accepted matrix every codeword has exactly one message, and the message that was
-- encoded comes back
pub record MessagesRead (n k : ℕ) (rows words before : List ℕ) (r : Answer) (after : List ℕ) : Type 0 where
  pub answer : r ≡ message_answer n k rows words (length before)
  pub slots : after ≡ on_done r (map (message_of rows) words) before
  pub every_word : EveryWord n r
  pub one : Accepted n k rows → (w : ℕ) → Codeword rows w → IsMessage rows w (message_of rows w)
  pub back : Accepted n k rows → (u : ℕ) → u < 2 ^ k → message_of rows (encode rows u) ≡ u
