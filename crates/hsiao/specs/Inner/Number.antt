-- The number of a column, which the scan of the table answers, and its place.
use Rattle.std.specs.Prelude.{List, cond, ℕ, suc, ltb, length, Option, Some, None}
use Rattle.coding.specs.Columns.{column_place}

-- one more than the place whose column is s, or 0 where no column is s
abbrev pub column_number : List ℕ → ℕ → ℕ
column_number cols s = cond (ltb (column_place cols s) (length cols)) (suc (column_place cols s)) 0

-- the place whose column is s, if there is one
abbrev pub some_place : List ℕ → ℕ → Option ℕ
some_place cols s = cond (ltb (column_place cols s) (length cols)) (Some (column_place cols s)) None
