-- A table of sums with one row more.
use Rattle.std.specs.Prelude.{◌≡◌, List, ℕ, ◌+◌, ◌<◌, length, get_or}
use Rattle.coding.specs.Word.{◌⊕◌}

-- the first half entries are as they were, and so many after them are the first ones, each with the row added
pub record Doubled (before : List ℕ) (half count row : ℕ) (after : List ℕ) : Type 0 where
  pub size : length after ≡ length before
  pub kept : (j : ℕ) → j < half → get_or after j 0 ≡ get_or before j 0
  pub added : (j : ℕ) → j < count → get_or after (half + j) 0 ≡ get_or before j 0 ⊕ row
