-- The table of columns: one computed test gives the rule of its columns, and so the minimum distance; the totals of its ones likewise.
use mathlib.Core.Path.{◌≡◌, refl}
use Prim.Native.Nat.{◌^◌, ◌<◌}
use lib.Dec.{lit<}
use lib.Count.{ones, ones_in}
use lib.ListN.{length, get_or}
use Rattle.coding.specs.Word.{weight}
use Rattle.coding.specs.Columns.{SplitPlaces, OddColumns, SplitMinimumDistance}
use Rattle.coding.proofs.ColumnLaws.{four_exactly}
use Rattle.coding.proofs.ColumnTestLaws.{odd_columns, odd-columns}
use Rattle.hsiao.specs.Table.{columns, split, HsiaoTable}
use Rattle.hsiao.specs.declared.word.Word.{Word}

pub columns-odd : OddColumns 8 columns
unfolding columns odd_columns ones_in
columns-odd = odd-columns 8 columns tt

pub columns-length : length columns ≡ 64
unfolding columns
columns-length = refl

-- a check byte and 64 data bits are a word of 72 places
pub word-places : (w : Word) → w.check < 2 ^ 8 → w.«data» < 2 ^ 64 → SplitPlaces 8 columns (split w)
word-places w h k = record { check = h; info = rw columns-length k }

-- the first column, 07, has weight 3
first-weight : weight (get_or columns 0 0) ≡ 3
unfolding columns ones
first-weight = refl

some_column : 0 < length columns
unfolding columns
some_column = lit< tt

pub distance-four : SplitMinimumDistance 8 columns 4
distance-four = four_exactly 8 columns columns-odd 0 some_column first-weight

-- what is promised of the table
pub table_is : HsiaoTable
unfolding columns ones
table_is = record { odd = columns-odd; ones = refl; each_row = refl }
