-- 01, "The code sheet": the sheet that bytes say, or the refusal.
use Rattle.std.specs.Prelude.{List, Option, Some, None, Result, Ok, Err, cond, ℕ, zero, suc, ltb, length, get_or, set, replicate}
use Rattle.outcomes.specs.declared.ending.Reading.{Reading}
use Rattle.outcomes.specs.declared.ending.Reading.TheVariants.{Nearest, Within}
use Rattle.sheet.specs.Field.{max_tag, field_at}
use Rattle.sheet.specs.declared.answer.Fault.{Fault}
use Rattle.sheet.specs.declared.answer.Fault.TheVariants.{Layout, Tag}
use Rattle.sheet.specs.declared.answer.Span.{Span}
use Rattle.sheet.specs.declared.answer.Sheet.{Sheet}
use Rattle.sheet.specs.declared.field.Content.{Content}
use Rattle.sheet.specs.declared.field.Content.TheVariants.{Byte, Words}
use Rattle.sheet.specs.declared.field.Field.{Field}

-- the most bytes of a sheet
abbrev pub max_sheet : ℕ
max_sheet = 4096

-- no tag 4 means nearest
abbrev pub reading_of : Option Content → Reading
reading_of (Some (Byte r)) = Within r
reading_of (Some (Words span)) = Nearest
reading_of None = Nearest

-- the byte of a tag that may not be missing: 13 at the sheet's length where it is
abbrev pub with_byte : Option Content → ℕ → (ℕ → Result Sheet Fault) → Result Sheet Fault
with_byte (Some (Byte b)) end rest = rest b
with_byte (Some (Words span)) end rest = Err (Tag end)
with_byte None end rest = Err (Tag end)

-- the words of one
abbrev pub with_words : Option Content → ℕ → (Span → Result Sheet Fault) → Result Sheet Fault
with_words (Some (Words span)) end rest = rest span
with_words (Some (Byte b)) end rest = Err (Tag end)
with_words None end rest = Err (Tag end)

-- the sheet of the contents, entry t being that of tag t
abbrev pub sheet_in : List (Option Content) → ℕ → Result Sheet Fault
sheet_in contents end =
    with_byte (get_or contents 1 None) end (λ n.
    with_byte (get_or contents 2 None) end (λ k.
    with_words (get_or contents 3 None) end (λ rows.
    with_words (get_or contents 5 None) end (λ words.
    Ok (record { n = n; k = k; rows = rows; reading = reading_of (get_or contents 4 None); words = words })))))

-- a field that cannot be read ends the reading there
abbrev pub follow : Result Field Fault → (ℕ → Content → ℕ → Result Sheet Fault) → Result Sheet Fault
follow (Ok field) rest = rest field.tag field.content field.next
follow (Err fault) rest = Err fault

-- the fields from a position on, after the last tag and with the contents so far, in at most d steps: a step is a field, which takes
-- three bytes or more, so that d steps are enough for d bytes
unfoldable pub sheet_from : ℕ → List ℕ → ℕ → ℕ → List (Option Content) → Result Sheet Fault
sheet_from zero s at last contents = sheet_in contents (length s)
sheet_from (suc d) s at last contents =
    cond (ltb at (length s))
    (follow (field_at s at last) (λ tag content next. sheet_from d s next tag (set contents tag (Some content))))
    (sheet_in contents (length s))

unfoldable pub sheet_of : List ℕ → Result Sheet Fault
sheet_of s =
    cond (ltb max_sheet (length s)) (Err (Layout max_sheet))
    (sheet_from (length s) s 0 0 (replicate (suc max_tag) None))
