-- 02, No. 5, sorting back: its answer and what the lent list holds at the end.
use Rattle.std.specs.Prelude.{◌≡◌, List, ℕ, ◌+◌, ◌*◌, ◌^◌, ◌<◌, length, get_or}
use Rattle.coding.specs.Word.{bit}
use Rattle.coding.specs.Interleaving.{interleaved, sorted_words}
use Rattle.answers.specs.Refusal.{on_done, Answer, done}
use Rattle.words.specs.Widest.{EveryRow}
use Rattle.interleaving.specs.Causes.{deinterleave_answer}

-- slot i holds word i of the L words, every later slot and on a refusal every slot is as it was: a word of n places whose place j is bit
-- number L * j + i, and the words interleaved again are the bits; at 32 places never 3 (02, No. 7)
pub record Deinterleaved (n k : ℕ) (rows : List ℕ) (L : ℕ) (bits before : List ℕ) (r : Answer) (after : List ℕ) : Type 0 where
  pub answer : r ≡ deinterleave_answer n k rows L bits (length before)
  pub every_row : EveryRow n r
  pub slots : after ≡ on_done r (sorted_words n L bits) before
  pub inside : r ≡ done → (i : ℕ) → i < L → get_or after i 0 < 2 ^ n
  pub travelled : r ≡ done → (i j : ℕ) → i < L → j < n → bit (get_or after i 0) j ≡ get_or bits (L * j + i) 0
  pub again : r ≡ done → interleaved n (sorted_words n L bits) ≡ bits
