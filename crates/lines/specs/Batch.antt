-- The lines of a batch by the slots of Decode's lists: slot i of the codewords and slot i of the counts, where 255 means far.
use Rattle.std.specs.Prelude.{◌≡◌, List, [], ◌∷◌, ◌++◌, ℕ, ◌≤◌, length}
use Rattle.words.specs.Limits.{width, max_words}
use Rattle.tally.specs.Slots.{slot_outcome, slot_tally}
use Rattle.lines.specs.Text.{space, line_feed}
use Rattle.lines.specs.Line.{code_line, digits_of, ending}
use Rattle.lines.specs.Closing.{closing_line}
use Rattle.lines.specs.Put.{max_output}

unfoldable pub slot_line : ℕ → ℕ → ℕ → List ℕ
slot_line n c count = digits_of n c ++ space ∷ ending (slot_outcome count) ++ line_feed ∷ []

-- a line for each slot
unfoldable pub slot_lines : ℕ → List ℕ → List ℕ → List ℕ
slot_lines n [] counts = []
slot_lines n (c ∷ codewords) [] = []
slot_lines n (c ∷ codewords) (d ∷ counts) = slot_line n c d ++ slot_lines n codewords counts

-- the first line, those of the slots and the closing line
abbrev pub batch_lines : ℕ → ℕ → ℕ → List ℕ → List ℕ → List ℕ
batch_lines n k d codewords counts = code_line n k d ++ slot_lines n codewords counts ++ closing_line (slot_tally counts)

-- a batch that can be printed: words of at most 32 places, a count for each, no more than a call takes, and room for the longest output
pub record Printable (n : ℕ) (codewords counts out : List ℕ) : Type 0 where
  pub places : n ≤ width
  pub each : length counts ≡ length codewords
  pub few : length codewords ≤ max_words
  pub room : max_output ≤ length out
