-- 01, "The code sheet": one field, a one-byte tag, a two-byte length (high byte first), and the content.
use Rattle.std.specs.Prelude.{List, Option, Some, None, Result, Ok, Err, cond, ℕ, ◌+◌, ◌-◌, ◌*◌, ◌/◌, ◌%◌, eqb, leb, ltb, length, get_or}
use Rattle.sheet.specs.declared.answer.Fault.{Fault}
use Rattle.sheet.specs.declared.answer.Fault.TheVariants.{Layout, Tag}
use Rattle.sheet.specs.declared.field.Content.{Content}
use Rattle.sheet.specs.declared.field.Content.TheVariants.{Byte, Words}
use Rattle.sheet.specs.declared.field.Field.{Field}

-- tags are 1 to 5
abbrev pub max_tag : ℕ
max_tag = 5

-- a content of one byte
abbrev pub byte_content : List ℕ → ℕ → ℕ → Option Content
byte_content s from size = cond (eqb size 1) (Some (Byte (get_or s from 0))) None

-- a content of words, four bytes each
abbrev pub words_content : ℕ → ℕ → Option Content
words_content from size = cond (eqb (size % 4) 0) (Some (Words (record { at = from; count = size / 4 }))) None

-- the content of a tag: one byte for tags 1, 2 and 4, words for tags 3 and 5; none where the length is wrong
unfoldable pub content_of : List ℕ → ℕ → ℕ → ℕ → Option Content
content_of s tag from size =
    cond (eqb tag 1) (byte_content s from size)
    (cond (eqb tag 2) (byte_content s from size)
    (cond (eqb tag 3) (words_content from size)
    (cond (eqb tag 4) (byte_content s from size)
    (cond (eqb tag 5) (words_content from size) None))))

-- the length of the field at this position
abbrev pub size_at : List ℕ → ℕ → ℕ
size_at s at = get_or s (at + 1) 0 * 256 + get_or s (at + 2) 0

-- a content of the wrong length cannot be read
abbrev pub gotten : Option Content → ℕ → ℕ → ℕ → Result Field Fault
gotten None at tag next = Err (Layout at)
gotten (Some content) at tag next = Ok (record { tag = tag; content = content; next = next })

-- the tests of 01 in its order: fewer than 3 bytes left; tag unknown or not above the last; content past the end; wrong length.
-- The position is the tag's
unfoldable pub field_at : List ℕ → ℕ → ℕ → Result Field Fault
field_at s at last =
    cond (ltb (length s - at) 3) (Err (Layout at))
    (cond (ltb max_tag (get_or s at 0)) (Err (Tag at))
    (cond (leb (get_or s at 0) last) (Err (Tag at))
    (cond (ltb (length s - at - 3) (size_at s at)) (Err (Layout at))
    (gotten (content_of s (get_or s at 0) (at + 3) (size_at s at)) at (get_or s at 0) (at + 3 + size_at s at)))))
