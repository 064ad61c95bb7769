-- The limits of 01, "Words and matrices" and cause 6, those of n and k as 02, No. 7, has them, and the sizes of the tables. No other
-- definition has these numbers.
use Rattle.std.specs.Prelude.{Bool, ◌&&◌, ℕ, ◌+◌, ◌≤◌, leb}

abbrev pub max_places : ℕ
max_places = 32

abbrev pub max_rows : ℕ
max_rows = 20

abbrev pub max_checks : ℕ
max_checks = 12

abbrev pub max_words : ℕ
max_words = 512

-- the most words that are sent interleaved (02, No. 5)
abbrev pub max_depth : ℕ
max_depth = 16

-- the places of a machine word: a table by place has so many entries
abbrev pub width : ℕ
width = 32

-- the weights that such a word can have, 0 to 32
abbrev pub weight_slots : ℕ
weight_slots = 33

-- n is 2 to 32, k is 1 to 20, n - k is 1 to 12
pub record InRange (n k : ℕ) : Type 0 where
  pub places : (2 ≤ n) × (n ≤ max_places)
  pub rows : (1 ≤ k) × (k ≤ max_rows)
  pub checks : (k + 1 ≤ n) × (n ≤ k + max_checks)

-- the same as a test
abbrev pub in_range : ℕ → ℕ → Bool
in_range n k = leb 2 n && leb n max_places && leb 1 k && leb k max_rows && leb (k + 1) n && leb n (k + max_checks)
