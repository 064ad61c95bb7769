-- 01, part 7: the columns of the (72,64) code.
use Rattle.std.specs.Prelude.{◌≡◌, ◌↔◌, List, [], ◌∷◌, ◌++◌, map, ℕ, replicate}
use Rattle.coding.specs.Lists.{tabulate, total}
use Rattle.coding.specs.Word.{bit, weight}
use Rattle.coding.specs.Order.{words}
use Rattle.coding.specs.Columns.{SplitWord, units, split_syndrome, SplitCodeword, OddColumns}
use Rattle.hsiao.specs.declared.word.Word.{Word}

-- the columns of the data places: the bytes of weight 3 in rising order, then these of weight 5
unfoldable pub columns : List ℕ
columns = words 8 3 ++ (0x1F ∷ 0x3E ∷ 0x7C ∷ 0xF8 ∷ 0xF1 ∷ 0xE3 ∷ 0xC7 ∷ 0x8F ∷ [])

-- a word as its check part and its information part
abbrev pub split : Word → SplitWord
split w = record { check = w.check; info = w.«data» }

-- the sum of the columns of the places that hold a 1
abbrev pub syndrome_of : Word → ℕ
syndrome_of w = split_syndrome 8 columns (split w)

abbrev pub IsCodeword : Word → Type 0
IsCodeword w = SplitCodeword 8 columns (split w)

-- what a syndrome r tells: it is the sum, and w is a codeword exactly when r is 0
pub record HasSyndrome (w : Word) (r : ℕ) : Type 0 where
  pub sum : r ≡ syndrome_of w
  pub codeword : (r ≡ 0) ↔ IsCodeword w

-- 01's table: different columns of odd weight, none a single bit; and with the columns of the check places the totals of 000's
-- Table 4.1, the ones of all columns and those of each check row
pub record HsiaoTable : Type 0 where
  pub odd : OddColumns 8 columns
  pub ones : total (map weight (units 8 ++ columns)) ≡ 216
  pub each_row : tabulate (λ j. total (map (λ x. bit x j) (units 8 ++ columns))) 8 ≡ replicate 8 27
