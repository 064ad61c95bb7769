-- 01, "The code sheet": the bytes of a written sheet, without a word about reading.
use Rattle.std.specs.Prelude.{◌≡◌, List, Result, Ok, [], ◌∷◌, ◌++◌, ℕ, ◌/◌, ◌%◌, length}
use Rattle.outcomes.specs.declared.ending.Reading.{Reading}
use Rattle.outcomes.specs.declared.ending.Reading.TheVariants.{Nearest, Within}
use Rattle.sheet.specs.Words.{words_in}
use Rattle.sheet.specs.declared.answer.Fault.{Fault}
use Rattle.sheet.specs.declared.answer.Sheet.{Sheet}

-- what a writer puts into a sheet
pub record WrittenSheet : Type 0 where
  pub n : ℕ
  pub k : ℕ
  pub rows : List ℕ
  pub reading : Reading
  pub words : List ℕ

-- one-byte tag, two-byte length (high byte first), content
abbrev pub field : ℕ → List ℕ → List ℕ
field tag content = tag ∷ length content / 256 ∷ length content % 256 ∷ content

-- rows and words take 4 bytes each, low byte first
abbrev pub four_bytes : List ℕ → List ℕ
four_bytes [] = []
four_bytes (w ∷ words) = w % 256 ∷ w / 256 % 256 ∷ w / 65536 % 256 ∷ w / 16777216 ∷ four_bytes words

-- no tag 4 means nearest
abbrev pub radius_field : Reading → List ℕ
radius_field Nearest = []
radius_field (Within r) = field 4 (r ∷ [])

-- the fields, their tags rising: 1 n, 2 k, 3 rows, 4 radius where there is one, 5 received words
abbrev pub sheet_bytes : WrittenSheet → List ℕ
sheet_bytes w =
    field 1 (w.n ∷ []) ++ field 2 (w.k ∷ []) ++ field 3 (four_bytes w.rows) ++ radius_field w.reading ++ field 5 (four_bytes w.words)

-- the answer is a sheet, and it says what was written
pub record ReadBack (w : WrittenSheet) (s : List ℕ) (r : Result Sheet Fault) : Type 0 where
  pub sheet : Sheet
  pub is_read : r ≡ Ok sheet
  pub n : sheet.n ≡ w.n
  pub k : sheet.k ≡ w.k
  pub rows : words_in s sheet.rows ≡ w.rows
  pub reading : sheet.reading ≡ w.reading
  pub words : words_in s sheet.words ≡ w.words
