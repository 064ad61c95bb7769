-- 01, "The code sheet": rows and words take 4 bytes each, low byte first.
use Rattle.std.specs.Prelude.{◌≡◌, List, ℕ, ◌+◌, ◌*◌, ◌≤◌, ◌<◌, length, get_or}
use Rattle.coding.specs.Lists.{tabulate}
use Rattle.sheet.specs.declared.answer.Span.{Span}

unfoldable pub word_at : List ℕ → ℕ → ℕ
word_at s at = get_or s at 0 + 256 * get_or s (at + 1) 0 + 65536 * get_or s (at + 2) 0 + 16777216 * get_or s (at + 3) 0

-- so many words from a position on
unfoldable pub words_at : List ℕ → ℕ → ℕ → List ℕ
words_at s at count = tabulate (λ i. word_at s (at + 4 * i)) count

-- the words of a span
abbrev pub words_in : List ℕ → Span → List ℕ
words_in s span = words_at s span.at span.count

-- a span lies within the bytes, and word i of it is the four bytes from 4 * i on, low byte first
pub record Placed (s : List ℕ) (span : Span) : Type 0 where
  pub inside : span.at + 4 * span.count ≤ length s
  pub count : length (words_in s span) ≡ span.count
  pub each : (i : ℕ) → i < span.count → get_or (words_in s span) i 0 ≡ word_at s (span.at + 4 * i)
