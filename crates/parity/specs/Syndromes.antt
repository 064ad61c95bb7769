-- 01, part 2: what the calls for the syndrome of a word and for the syndromes of a list of words answer.
use Rattle.std.specs.Prelude.{◌≡◌, List, map, ◌++◌, ℕ, ◌^◌, ◌<◌, length, get_or, take, drop}
use Rattle.coding.specs.Word.{bit, parity}
use Rattle.coding.specs.Check.{syndrome}

-- the syndrome of the definition, in 01's words: bit j is the parity of the word's places where check row j has a 1, and it has no other bit
pub record SyndromeOf (checks : List ℕ) (w s : ℕ) : Type 0 where
  pub is : s ≡ syndrome checks w
  pub bits : (j : ℕ) → j < length checks → bit s j ≡ parity w (get_or checks j 0)
  pub no_more : s < 2 ^ length checks

-- slot i is the syndrome of word i, as far as there are words and slots, and every later slot is as it was
pub record SyndromesOf (checks words before after : List ℕ) : Type 0 where
  pub slots : after ≡ map (syndrome checks) (take (length before) words) ++ drop (length words) before
  pub each : (i : ℕ) → i < length words → i < length before → SyndromeOf checks (get_or words i 0) (get_or after i 0)
