-- 01, Encode of the (72,64) code, and 02, No. 3: Encode of a code given by columns.
use Rattle.std.specs.Prelude.{◌≡◌, List, ℕ}
use Rattle.coding.specs.Matrix.{encode}
use Rattle.coding.specs.Columns.{SplitCodeword}
use Rattle.hsiao.specs.Table.{columns, HsiaoTable}

-- for c check places and these data columns: the check bits r are the sum of the columns that the data bits select; with them the data
-- is a codeword, and with no others
pub record EncodedBy (c : ℕ) (cols : List ℕ) (bits r : ℕ) : Type 0 where
  pub sum : r ≡ encode cols bits
  pub codeword : SplitCodeword c cols (record { check = r; info = bits })
  pub only : (b : ℕ) → SplitCodeword c cols (record { check = b; info = bits }) → b ≡ r

-- the check byte r of the (72,64) code, whose columns are those of 01's table
pub record Encoded (bits r : ℕ) : Type 0 where
  pub by_columns : EncodedBy 8 columns bits r
  pub table : HsiaoTable
