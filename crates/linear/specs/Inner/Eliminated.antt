-- What the elimination ends with.
use Rattle.std.specs.Prelude.{◌≡◌, List, ℕ, ◌≤◌, ◌<◌, length, take}
use Rattle.coding.specs.Matrix.{Depends}
use Rattle.coding.specs.Reduce.{reduce}
use Rattle.coding.specs.Reduced.{Traced}
use Rattle.words.specs.Limits.{width}
use Rattle.linear.specs.declared.reduction.Elimination.{Elimination}

-- it ends at the first row that is a sum of earlier ones, or past the last; the rows before it are reduced, in 32 places, and
-- each reduced row has its message beside it
pub record Eliminated (rows : List ℕ) (r : Elimination) : Type 0 where
  pub within : r.rank ≤ length rows
  pub table : r.table ≡ reduce width (take r.rank rows)
  pub before : (j : ℕ) → j < r.rank → Depends rows j → ⊥
  pub there : r.rank < length rows → Depends rows r.rank
  pub traced : Traced rows r.messages r.table
