-- 02, No. 5: L words of n places are sent interleaved, one bit after the other, so that neighbouring bits belong to different words.
-- Place j of word i travels as bit number L * j + i.
use Rattle.std.specs.Prelude.{◌≡◌, ◌⊎◌, List, ℕ, ◌+◌, ◌*◌, ◌/◌, ◌%◌, ◌≤◌, ◌<◌, length, get_or, take}
use Rattle.coding.specs.Lists.{tabulate}
use Rattle.coding.specs.Word.{bit, distance}
use Rattle.coding.specs.Check.{places}

-- bit number b: place b / L of word b % L
abbrev pub sent_bit : List ℕ → ℕ → ℕ
sent_bit words b = bit (get_or words (b % length words) 0) (b / length words)

-- the words interleaved, in a list of one entry a bit; L is their number
abbrev pub interleaved : ℕ → List ℕ → List ℕ
interleaved n words = tabulate (sent_bit words) (length words * n)

-- sorting back (deinterleaving): place j of word i is bit number L * j + i
abbrev pub sorted_word : ℕ → ℕ → List ℕ → ℕ → ℕ
sorted_word n L bits i = places (λ j. get_or bits (L * j + i) 0) (tabulate (λ j. j) n)

abbrev pub sorted_words : ℕ → ℕ → List ℕ → List ℕ
sorted_words n L bits = tabulate (sorted_word n L bits) L

-- a burst: the received bits differ from the sent ones only in the s places from a on, of which some may lie past the end
abbrev pub Burst : (a s : ℕ) (sent received : List ℕ) → Type 0
Burst a s sent received = (b : ℕ) → b < length sent → (b < a) ⊎ (a + s ≤ b) → get_or received b 0 ≡ get_or sent b 0

-- L codewords, of any set C, were sent interleaved, and received with a burst of s places from a on
pub record SentWithBurst (C : ℕ → Type 0) (n L s a : ℕ) (sent bits : List ℕ) : Type 0 where
  pub long : length sent ≡ L
  pub codewords : (i : ℕ) → i < L → C (get_or sent i 0)
  pub burst : Burst a s (interleaved n sent) bits

-- a burst of L * r places is mended, whatever was sent and wherever it begins (with r = 0 that is the unchanged list): the answers begin with
-- the words sent, and each count is the number of places in which its word was changed, at most r
pub record BurstRule (C : ℕ → Type 0) (n L r : ℕ) (bits codewords counts : List ℕ) : Type 0 where
  pub mended : (sent : List ℕ) (a : ℕ) → SentWithBurst C n L (L * r) a sent bits → take L codewords ≡ sent
  pub counted : (sent : List ℕ) (a : ℕ) → SentWithBurst C n L (L * r) a sent bits → (i : ℕ) → i < L
      → (get_or counts i 0 ≡ distance (sorted_word n L bits i) (get_or sent i 0)) × (get_or counts i 0 ≤ r)
