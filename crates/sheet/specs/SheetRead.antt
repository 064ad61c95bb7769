-- What the reader answers.
use Rattle.std.specs.Prelude.{◌≡◌, List, Result, Ok, ℕ, ◌≤◌, length}
use Rattle.sheet.specs.Words.{Placed}
use Rattle.sheet.specs.Sheet.{sheet_of}
use Rattle.sheet.specs.Written.{WrittenSheet, sheet_bytes, ReadBack}
use Rattle.sheet.specs.declared.answer.Fault.{Fault}
use Rattle.sheet.specs.declared.answer.Sheet.{Sheet}

-- the sheet that the bytes say, or the refusal; the rows and the words of a sheet that was read stand in its bytes; and a sheet of at most
-- 4,096 bytes is read as it was written
pub record SheetRead (s : List ℕ) (r : Result Sheet Fault) : Type 0 where
  pub answer : r ≡ sheet_of s
  pub rows : (h : Sheet) → r ≡ Ok h → Placed s h.rows
  pub words : (h : Sheet) → r ≡ Ok h → Placed s h.words
  pub written : (w : WrittenSheet) → s ≡ sheet_bytes w → length s ≤ 4096 → ReadBack w s r
