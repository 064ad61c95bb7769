-- A written sheet is read as it was written: field after field, and the words of a field of words.
use mathlib.Core.Path.{◌≡◌, refl, sym, ap, ◌∙◌}
use mathlib.Core.List.{List, [], ◌∷◌, ◌++◌, append-nil, append_assoc}
use Rattle.std.specs.Prelude.{Option, Some, None, Result, Ok}
use Prim.Native.Nat.{ℕ, zero, suc, ◌+◌, ◌-◌, ◌*◌, ◌/◌, ◌%◌, ◌≤◌, ◌<◌}
use native.Mathlib.Nat.{add-zero}
use native.Mathlib.Omega.{arith}
use borrow.Author.Tests.{le-ltb, lt-leb}
use lib.ListN.{length, get_or, drop, set, replicate, length-append, length-drop}
use lib.Seq.{get_or-drop, drop-drop, drop-append_seam, ext_get_or}
use Rattle.outcomes.specs.declared.ending.Reading.{Reading}
use Rattle.outcomes.specs.declared.ending.Reading.TheVariants.{Nearest, Within}
use Rattle.sheet.specs.Field.{max_tag, words_content, content_of, size_at, gotten, field_at}
use Rattle.sheet.specs.Words.{word_at, words_at, words_in}
use Rattle.sheet.specs.Sheet.{max_sheet, reading_of, sheet_of}
use Rattle.sheet.specs.Written.{WrittenSheet, field, four_bytes, radius_field, sheet_bytes, ReadBack}
use Rattle.sheet.specs.declared.answer.Span.{Span}
use Rattle.sheet.specs.declared.answer.Fault.{Fault}
use Rattle.sheet.specs.declared.answer.Sheet.{Sheet}
use Rattle.sheet.specs.declared.field.Content.{Content}
use Rattle.sheet.specs.declared.field.Content.TheVariants.{Byte, Words}
use Rattle.sheet.proofs.SpanLaws.{length-words, word_of}
use Rattle.sheet.proofs.FieldLaws.{Reads, reads_start, reads_step, reads_end}

-- ---- words of four bytes

length-four : (words : List ℕ) → length (four_bytes words) ≡ 4 * length words
length-four [] = refl
length-four (w ∷ words) = let h = length-four words in omega arith

-- the bytes of the list from a position on
byte_of : (s bytes : List ℕ) (at i : ℕ) → drop at s ≡ bytes → get_or s (at + i) 0 ≡ get_or bytes i 0
byte_of s bytes at i e = sym (get_or-drop at s i 0) ∙ ap (λ (l : List ℕ). get_or l i 0) e

first_back : (s words rest : List ℕ) (at w : ℕ) → drop at s ≡ four_bytes (w ∷ words) ++ rest → word_at s at ≡ w
unfolding word_at
first_back s words rest at w e =
    let b0 = rw add-zero at (byte_of s _ at 0 e) in
    let b1 = byte_of s _ at 1 e in
    let b2 = byte_of s _ at 2 e in
    let b3 = byte_of s _ at 3 e in
    omega arith

word_back : (s words rest : List ℕ) (at i : ℕ) → drop at s ≡ four_bytes words ++ rest → i < length words
    → word_at s (at + 4 * i) ≡ get_or words i 0
word_back s [] rest at i e h = absurd (omega arith)
word_back s (w ∷ words) rest at zero e h = rw add-zero (first_back s words rest at w e)
word_back s (w ∷ words) rest at (suc i) e h =
    let p : at + 4 * suc i ≡ at + 4 + 4 * i = omega arith in
    ap (word_at s) p ∙ word_back s words rest (at + 4) i (sym (drop-drop 4 at s) ∙ ap (drop 4) e) (omega arith)

words_back : (s words rest : List ℕ) (at : ℕ) → drop at s ≡ four_bytes words ++ rest → words_at s at (length words) ≡ words
words_back s words rest at e =
    let l = length-words s at (length words) in
    ext_get_or 0 (words_at s at (length words)) words l
    (λ i h. word_of s at (length words) i (omega arith) ∙ word_back s words rest at i e (omega arith))

-- ---- one field

module _ (s : List ℕ) (at tag : ℕ) (content rest : List ℕ) (e : drop at s ≡ field tag content ++ rest) where
  tag_back : get_or s at 0 ≡ tag
  tag_back = rw add-zero at (byte_of s _ at 0 e)

  size_back : size_at s at ≡ length content
  size_back =
      let b1 = byte_of s _ at 1 e in
      let b2 = byte_of s _ at 2 e in
      omega arith

  content_there : drop (at + 3) s ≡ content ++ rest
  content_there = sym (drop-drop 3 at s) ∙ ap (drop 3) e

  rest_there : drop (at + 3 + length content) s ≡ rest
  rest_there = sym (drop-drop (length content) (at + 3) s) ∙ ap (drop (length content)) content_there ∙ drop-append_seam content rest

  room : at + 3 + length content ≤ length s
  room = omega (arith, ap length e, length-drop at s, length-append content rest)

  -- the tag is above the last and known: the content is what is left to test
  field_back : (last : ℕ) → last < tag → tag ≤ max_tag
      → field_at s at last ≡ gotten (content_of s tag (at + 3) (length content)) at tag (at + 3 + length content)
  unfolding field_at
  field_back last h k =
      rw (
        le-ltb (length s - at) 3 (omega (arith, room)),
        tag_back,
        le-ltb max_tag tag k,
        lt-leb tag last h,
        size_back,
        le-ltb (length s - at - 3) (length content) (omega (arith, room)),
      )

-- ---- the fields one after the other: what was read so far, and the bytes that are left

record Left (s : List ℕ) (contents : List (Option Content)) (at last : ℕ) (rest : List ℕ) : Type 0 where
  reads : Reads s contents at last
  left : drop at s ≡ rest

module _ {s : List ℕ} {contents : List (Option Content)} {at last : ℕ} (tag : ℕ) (content rest : List ℕ)
    (L : Left s contents at last (field tag content ++ rest)) (above : last < tag) (known : tag ≤ max_tag) where
  field-left : (x : Content)
      → gotten (content_of s tag (at + 3) (length content)) at tag (at + 3 + length content) ≡ Ok (record { tag = tag; content = x; next = at + 3 + length content })
      → Left s (set contents tag (Some x)) (at + 3 + length content) tag rest
  field-left x e =
      let h = room s at tag content rest L.left in
      record {
        reads = reads_step L.reads (record { tag = tag; content = x; next = at + 3 + length content }) (omega arith) (field_back s at tag content rest L.left last above known ∙ e);
        left = rest_there s at tag content rest L.left;
      }

-- a field of one byte
byte_left : {s : List ℕ} {contents : List (Option Content)} {at last : ℕ} (tag b : ℕ) (rest : List ℕ) → Left s contents at last (field tag (b ∷ []) ++ rest)
    → last < tag → tag ≤ max_tag → ((from : ℕ) → content_of s tag from 1 ≡ Some (Byte (get_or s from 0))) → Left s (set contents tag (Some (Byte b))) (at + 4) tag rest
byte_left {s} {contents} {at} tag b rest L above known one =
    let c : content_of s tag (at + 3) 1 ≡ Some (Byte b)
    = one (at + 3) ∙ ap (λ (x : ℕ). Some (Byte x)) (rw add-zero at (byte_of s _ (at + 3) 0 (content_there s at tag (b ∷ []) rest L.left))) in
    let n : at + 3 + 1 ≡ at + 4 = omega arith in
    rw n at (field-left tag (b ∷ []) rest L above known (Byte b) (rw c))

-- a field of words
abbrev span_at : ℕ → List ℕ → Span
span_at at words = record { at = at + 3; count = length words }

words_left : {s : List ℕ} {contents : List (Option Content)} {at last : ℕ} (tag : ℕ) (words rest : List ℕ)
    → Left s contents at last (field tag (four_bytes words) ++ rest) → last < tag → tag ≤ max_tag
    → ((from size : ℕ) → content_of s tag from size ≡ words_content from size)
    → Left s (set contents tag (Some (Words (span_at at words)))) (at + 3 + length (four_bytes words)) tag rest × (words_in s (span_at at words) ≡ words)
words_left {s} {contents} {at} tag words rest L above known these =
    let l = length-four words in
    let m : length (four_bytes words) % 4 ≡ 0 = omega arith in
    let d : length (four_bytes words) / 4 ≡ length words = omega arith in
    let c : content_of s tag (at + 3) (length (four_bytes words)) ≡ Some (Words (span_at at words)) = these (at + 3) (length (four_bytes words)) ∙ rw (m, d) in (
      field-left tag (four_bytes words) rest L above known (Words (span_at at words)) (rw c),
      words_back s words rest (at + 3) (content_there s at tag (four_bytes words) rest L.left),
    )

-- ---- the whole sheet

-- the contents before tag 5
abbrev before5 : ℕ → ℕ → Span → Option Content → List (Option Content)
before5 n k rows radius = None ∷ Some (Byte n) ∷ Some (Byte k) ∷ Some (Words rows) ∷ radius ∷ None ∷ []

-- a field that may be absent: its content, and how far the reading came
record Radius (s : List ℕ) (n k : ℕ) (rows : Span) (reading : Reading) (rest : List ℕ) : Type 0 where
  content : Option Content
  at : ℕ
  last : ℕ
  below : last < 5
  is : reading_of content ≡ reading
  left : Left s (before5 n k rows content) at last rest

radius-left : {s : List ℕ} {n k at : ℕ} {rows : Span} (reading : Reading) (rest : List ℕ)
    → Left s (before5 n k rows None) at 3 (radius_field reading ++ rest) → Radius s n k rows reading rest
unfolding content_of
radius-left {s} {n} {k} {at} Nearest rest L = record { content = None; at = at; last = 3; below = omega arith; is = refl; left = L }
radius-left {s} {n} {k} {at} (Within r) rest L =
    let M = byte_left 4 r rest L (omega arith) (omega arith) (λ from. refl) in
    record { content = Some (Byte r); at = at + 4; last = 4; below = omega arith; is = refl; left = M }

-- the words are the last field, and then the sheet is at its end
sheet_back : (w : WrittenSheet) (s : List ℕ) (r : Result Sheet Fault) → r ≡ sheet_of s → (rows : Span) → words_in s rows ≡ w.rows
    → Radius s w.n w.k rows w.reading (field 5 (four_bytes w.words)) → ReadBack w s r
unfolding content_of
sheet_back w s r a rows e R =
    let (L, f) = words_left {s = s} {contents = before5 w.n w.k rows R.content} {at = R.at} {last = R.last} 5 w.words []
    (rw append-nil R.left) R.below (omega arith) (λ from size. refl) in
    record {
      sheet = record { n = w.n; k = w.k; rows = rows; reading = reading_of R.content; words = span_at R.at w.words };
      is_read = a ∙ reads_end L.reads (omega (arith, ap length L.left, length-drop (R.at + 3 + length (four_bytes w.words)) s));
      n = refl;
      k = refl;
      rows = e;
      reading = R.is;
      words = f;
    }

pub read_back : (w : WrittenSheet) (s : List ℕ) (r : Result Sheet Fault) → r ≡ sheet_of s → s ≡ sheet_bytes w → length s ≤ max_sheet → ReadBack w s r
unfolding content_of
read_back w s r a e h =
    let f5 = field 5 (four_bytes w.words) in
    let f4 = radius_field w.reading ++ f5 in
    let f3 = field 3 (four_bytes w.rows) ++ f4 in
    let f2 = field 2 (w.k ∷ []) ++ f3 in
    let L0 : Left s (replicate (suc max_tag) None) 0 0 (field 1 (w.n ∷ []) ++ f2)
    = record { reads = reads_start s h; left = e ∙ simp append_assoc } in
    let L1 = byte_left 1 w.n f2 L0 (omega arith) (omega arith) (λ from. refl) in
    let L2 = byte_left 2 w.k f3 L1 (omega arith) (omega arith) (λ from. refl) in
    let (L3, rows) = words_left 3 w.rows f4 L2 (omega arith) (omega arith) (λ from size. refl) in
    sheet_back w s r a (span_at 8 w.rows) rows (radius-left w.reading f5 L3)
