-- What the walk does with one block.
use Rattle.std.specs.Prelude.{◌≡◌, ◌≢◌, min, Option, MatchOption, List, ℕ, ◌+◌, ◌<◌, eqb, length, get_or}
use Rattle.coding.specs.Word.{◌⊕◌}
use Rattle.coding.specs.Matrix.{encode}
use Rattle.coding.specs.Weight.{count}
use Rattle.words.specs.Limits.{weight_slots}
use Rattle.walk.specs.Walked.{Walked}
use Rattle.walk.specs.declared.walk.Walk.{Walk}
use Rattle.walk.specs.declared.walk.Lightest.{Lightest}

-- each count has grown by the number of words of that weight
pub record Tallied (weights before after : List ℕ) : Type 0 where
  pub size : length after ≡ weight_slots
  pub grown : (j : ℕ) → get_or after j 0 ≡ get_or before j 0 + count (λ i. eqb (get_or weights i 0) j) (length weights)

-- the codeword found, or of the same weight as the one held the smaller of the two
pub record Kept (held : Option Lightest) (found r : Lightest) : Type 0 where
  pub weighs : r.weight ≡ found.weight
  pub lighter : MatchOption held (r.word ≡ found.word)
      (λ h. (h.weight ≡ found.weight → r.word ≡ min h.word found.word) × (h.weight ≢ found.weight → r.word ≡ found.word))

-- a walk has gone on over a block: where its words, each with base added, are the codewords of the next messages, these are walked too
abbrev pub BlockWalked : List ℕ → ℕ → Walk → Walk → Type 0
BlockWalked block base before after =
    (rows : List ℕ) (m : ℕ) → ((i : ℕ) → i < length block → get_or block i 0 ⊕ base ≡ encode rows (m + i)) → Walked rows m before
    → Walked rows (m + length block) after
