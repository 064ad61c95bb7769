-- 02, No. 3: the codes of 16, 32 and 64 data bits, (22,16), (39,32) and (72,64), by this number, their width.
use Rattle.std.specs.Prelude.{◌≡◌, Bool, cond, ◌||◌, List, ◌++◌, map, ℕ, eqb, length, take}
use Rattle.coding.specs.Lists.{total}
use Rattle.coding.specs.Word.{weight}
use Rattle.coding.specs.Order.{words}
use Rattle.coding.specs.Columns.{units, OddColumns}
use Rattle.hsiao.specs.Table.{columns}

abbrev pub is_width : ℕ → Bool
is_width width = eqb width 16 || (eqb width 32 || eqb width 64)

-- a value for each width; a number that is none has that of 64
abbrev by_width : {A : Type 0} → ℕ → A → A → A → A
by_width width at16 at32 at64 = cond (eqb width 16) at16 (cond (eqb width 32) at32 at64)

-- the number of check places
abbrev pub checks_of : ℕ → ℕ
checks_of width = by_width width 6 7 8

-- the columns of the data places: the first 16 words of 6 places and weight 3, by rising number; the first 32 of 7 places; 01's table
unfoldable pub columns_of : ℕ → List ℕ
columns_of width = by_width width (take 16 (words 6 3)) (take 32 (words 7 3)) columns

-- the ones of all columns, those of the check places among them: the totals of 000's Table 4.1
abbrev pub ones_of : ℕ → ℕ
ones_of width = by_width width 54 103 216

-- what is promised of a width's columns: as many as it says, different, of odd weight and no single bit, and with these totals
pub record WidthTable (width : ℕ) : Type 0 where
  pub size : length (columns_of width) ≡ width
  pub odd : OddColumns (checks_of width) (columns_of width)
  pub ones : total (map weight (units (checks_of width) ++ columns_of width)) ≡ ones_of width
