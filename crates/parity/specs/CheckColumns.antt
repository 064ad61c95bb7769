-- The columns of a parity-check matrix of n places, in a list with an entry for each place of a machine word. The syndrome of a word of n
-- places is the sum of the columns of the places that hold a 1: `columns-encode`.
use Rattle.std.specs.Prelude.{List, cond, ℕ, ltb}
use Rattle.coding.specs.Lists.{tabulate}
use Rattle.coding.specs.Check.{column}
use Rattle.words.specs.Limits.{width}

-- entry p is place p of each check row, and 0 from place n on
unfoldable pub columns_of : ℕ → List ℕ → List ℕ
columns_of n hs = tabulate (λ p. cond (ltb p n) (column hs p) 0) width
