-- 01, part 7, and 02, No. 3: a code given by the columns of its parity-check matrix. The c check places come first, and check place j
-- has the column 2 ^ j; then come the information places, whose columns are a list.
use Rattle.std.specs.Prelude.{◌≡◌, ◌≢◌, List, ℕ, ◌+◌, ◌^◌, ◌%◌, ◌≤◌, ◌<◌, eqb, length, get_or}
use Rattle.coding.specs.Lists.{first, tabulate}
use Rattle.coding.specs.Word.{◌⊕◌, weight, distance}
use Rattle.coding.specs.Matrix.{encode, Inside}

-- a word given as two numbers: its check part and its information part
pub record SplitWord : Type 0 where
  pub check : ℕ
  pub info : ℕ

-- the number of places in which two words differ, of both parts
abbrev pub split_distance : SplitWord → SplitWord → ℕ
split_distance a b = distance a.check b.check + distance a.info b.info

-- the columns of the check places
abbrev pub units : ℕ → List ℕ
units c = tabulate (λ j. 2 ^ j) c

-- the syndrome: the sum of the columns of the places that hold a 1
abbrev pub split_syndrome : ℕ → List ℕ → SplitWord → ℕ
split_syndrome c cols w = encode (units c) w.check ⊕ encode cols w.info

-- the first place whose column is s, or the number of columns where there is none
abbrev pub column_place : List ℕ → ℕ → ℕ
column_place cols s = first (λ i. eqb (get_or cols i 0) s) (length cols)

-- a word with the places of the code: no one beyond them in either part
pub record SplitPlaces (c : ℕ) (cols : List ℕ) (w : SplitWord) : Type 0 where
  pub check : w.check < 2 ^ c
  pub info : w.info < 2 ^ length cols

-- a codeword: such a word with the syndrome 0
pub record SplitCodeword (c : ℕ) (cols : List ℕ) (w : SplitWord) : Type 0 where
  pub places : SplitPlaces c cols w
  pub zero_syndrome : split_syndrome c cols w ≡ 0

-- different columns of odd weight within the check places, none a single bit
pub record OddColumns (c : ℕ) (cols : List ℕ) : Type 0 where
  pub inside : Inside c cols
  pub odd : (i : ℕ) → i < length cols → weight (get_or cols i 0) % 2 ≡ 1
  pub no_unit : (i : ℕ) → i < length cols → weight (get_or cols i 0) ≢ 1
  pub different : (i j : ℕ) → i < length cols → j < length cols → get_or cols i 0 ≡ get_or cols j 0 → i ≡ j

-- d is the least distance of two different codewords
pub record SplitMinimumDistance (c : ℕ) (cols : List ℕ) (d : ℕ) : Type 0 where
  pub attained : (a : SplitWord) × (b : SplitWord) × SplitCodeword c cols a × SplitCodeword c cols b × (a ≢ b) × (split_distance a b ≡ d)
  pub apart : (a b : SplitWord) → SplitCodeword c cols a → SplitCodeword c cols b → a ≢ b → d ≤ split_distance a b
