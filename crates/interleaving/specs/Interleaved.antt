-- 02, No. 5, sending: its answer and what the list of bits holds at the end.
use Rattle.std.specs.Prelude.{◌≡◌, List, ℕ, ◌+◌, ◌*◌, ◌<◌, length, get_or}
use Rattle.std.specs.Result.{result_unwrap_or}
use Rattle.coding.specs.Word.{bit}
use Rattle.coding.specs.Interleaving.{interleaved, sorted_words}
use Rattle.answers.specs.Refusal.{Answer, done, answered}
use Rattle.words.specs.Widest.{EveryWord}
use Rattle.interleaving.specs.Causes.{interleave_answer}

-- the list is the interleaved bits of the L words, in every slot, and on a refusal as it was: place j of word i travels as bit number
-- L * j + i, and sorting back gives the words; at 32 places every number is a word, so that 3 and 7 never arise (02, No. 7)
pub record Interleaved (n k : ℕ) (rows words before : List ℕ) (r : Answer) (after : List ℕ) : Type 0 where
  pub answer : r ≡ interleave_answer n k rows words (length before)
  pub every_word : EveryWord n r
  pub bits : after ≡ result_unwrap_or (answered r (interleaved n words)) before
  pub travels : r ≡ done → (i j : ℕ) → i < length words → j < n → get_or after (length words * j + i) 0 ≡ bit (get_or words i 0) j
  pub back : r ≡ done → sorted_words n (length words) after ≡ words
