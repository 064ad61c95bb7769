-- What the loops over the words and over the places of a word have written.
use Rattle.std.specs.Prelude.{◌≡◌, List, ℕ, ◌%◌, ◌<◌, length, get_or}
use Rattle.coding.specs.Interleaving.{sent_bit}

-- of m bits those of the first i words, and of word i those before bit number b
pub record Sent (words : List ℕ) (m i b : ℕ) (bits : List ℕ) : Type 0 where
  pub long : length bits ≡ m
  pub words_sent : (c : ℕ) → c < m → c % length words < i → get_or bits c 0 ≡ sent_bit words c
  pub places_sent : (c : ℕ) → c < m → c % length words ≡ i → c < b → get_or bits c 0 ≡ sent_bit words c
