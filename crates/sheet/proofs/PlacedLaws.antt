-- Where a sheet's rows and words stand: within its bytes.
use mathlib.Core.Path.{◌≡◌, refl, sym, ap, ◌∙◌}
use mathlib.Core.Bool.{Bool, true, false, cond}
use mathlib.Core.List.{List}
use Rattle.std.specs.Prelude.{Option, Some, None, Result, Ok, Err}
use Prim.Native.Nat.{ℕ, zero, suc, ◌+◌, ◌-◌, ◌*◌, ◌/◌, ◌%◌, ◌≤◌, ◌<◌}
use native.Mathlib.Decide.{ℕ_discrete, dec_le}
use native.Mathlib.Omega.{arith}
use lib.Dec.{ltb, eqb}
use lib.ListN.{length, get_or, set, replicate}
use lib.Seq.{get_or-set_same, get_or-set_other, set_out}
use Rattle.sheet.specs.Field.{max_tag, byte_content, words_content, content_of, field_at}
use Rattle.sheet.specs.Words.{Placed}
use Rattle.sheet.specs.SheetRead.{SheetRead}
use Rattle.sheet.specs.Sheet.{max_sheet, with_byte, with_words, sheet_in, sheet_from, sheet_of}
use Rattle.sheet.specs.declared.answer.Fault.{Fault}
use Rattle.sheet.specs.declared.answer.Span.{Span}
use Rattle.sheet.specs.declared.answer.Sheet.{Sheet}
use Rattle.sheet.specs.declared.field.Content.{Content}
use Rattle.sheet.specs.declared.field.Content.TheVariants.{Byte, Words}
use Rattle.sheet.specs.declared.field.Field.{Field}
use Rattle.sheet.proofs.SpanLaws.{length-words, word_of}
use Rattle.sheet.proofs.FieldLaws.{good}
use Rattle.sheet.proofs.WrittenLaws.{read_back}

abbrev Within : List ℕ → Span → Type 0
Within s span = span.at + 4 * span.count ≤ length s

-- every content of words so far is
abbrev Inside : List ℕ → List (Option Content) → Type 0
Inside s contents = (t : ℕ) (span : Span) → get_or contents t None ≡ Some (Words span) → Within s span

-- a cause is no sheet, and no content of words is of another kind
no_answer : {A : Type 0} {s : Sheet} {f : Fault} → Err f ≡ Ok s → A
no_answer e = let z : ◌≡◌ {A = ℕ} 0 1 = cc in absurd (omega arith)

module _ (s : List ℕ) (span : Span) where
  either : (b : Bool) (x y : Option Content) → cond b x y ≡ Some (Words span) → (x ≡ Some (Words span) → Within s span) → (y ≡ Some (Words span) → Within s span)
      → Within s span
  either true x y e f g = f e
  either false x y e f g = g e

  none : None ≡ Some (Words span) → Within s span
  none e = let z : ◌≡◌ {A = ℕ} 0 1 = cc in absurd (omega arith)

  byte : (from size : ℕ) → byte_content s from size ≡ Some (Words span) → Within s span
  byte from size e = either (eqb size 1) (Some (Byte (get_or s from 0))) None e (λ f. let z : ◌≡◌ {A = ℕ} 0 1 = cc in absurd (omega arith)) none

  words : (from size : ℕ) → from + size ≤ length s → words_content from size ≡ Some (Words span) → Within s span
  words from size h e =
      either (eqb (size % 4) 0) (Some (Words (record { at = from; count = size / 4 }))) None e
      (λ f. let q : record { at = from; count = size / 4 } ≡ span = cc in rw (sym q) (omega arith)) none

  content_within : (tag from size : ℕ) → from + size ≤ length s → content_of s tag from size ≡ Some (Words span) → Within s span
  unfolding content_of
  content_within tag from size h e =
      either (eqb tag 1) _ _ e (byte from size) (λ e.
      either (eqb tag 2) _ _ e (byte from size) (λ e.
      either (eqb tag 3) _ _ e (words from size h) (λ e.
      either (eqb tag 4) _ _ e (byte from size) (λ e.
      either (eqb tag 5) _ _ e (words from size h) none))))

-- the contents with one more
inside-set : (s : List ℕ) (contents : List (Option Content)) (tag : ℕ) (content : Option Content) → Inside s contents
    → ((span : Span) → content ≡ Some (Words span) → Within s span) → Inside s (set contents tag content)
inside-set s contents tag content I w t span e = go (ℕ_discrete t tag) (dec_le (suc tag) (length contents))
  where
    go : Dec (t ≡ tag) → Dec (tag < length contents) → Within s span
    go (yes q) (yes l) =
        w span (sym (get_or-set_same contents tag content None l) ∙ ap (λ (x : ℕ). get_or (set contents tag content) x None) (sym q) ∙ e)
    go (yes q) (no l) = I t span (ap (λ (x : List (Option Content)). get_or x t None) (sym (set_out contents tag content (omega arith))) ∙ e)
    go (no n) l = I t span (sym (get_or-set_other contents tag t content None n) ∙ e)

with_byte_lem : (x : Option Content) (end : ℕ) (rest : ℕ → Result Sheet Fault) (h : Sheet) → with_byte x end rest ≡ Ok h → (b : ℕ) × (rest b ≡ Ok h)
with_byte_lem None end rest h e = no_answer e
with_byte_lem (Some (Byte b)) end rest h e = (b, e)
with_byte_lem (Some (Words span)) end rest h e = no_answer e

with_words_lem : (x : Option Content) (end : ℕ) (rest : Span → Result Sheet Fault) (h : Sheet) → with_words x end rest ≡ Ok h
    → (span : Span) × (x ≡ Some (Words span)) × (rest span ≡ Ok h)
with_words_lem None end rest h e = no_answer e
with_words_lem (Some (Byte b)) end rest h e = no_answer e
with_words_lem (Some (Words span)) end rest h e = (span, refl, e)

abbrev Both : List ℕ → Sheet → Type 0
Both s h = Within s h.rows × Within s h.words

placed_in : (s : List ℕ) (contents : List (Option Content)) (end : ℕ) (h : Sheet) → Inside s contents → sheet_in contents end ≡ Ok h → Both s h
placed_in s contents end h I e =
    let (n, e1) = with_byte_lem (get_or contents 1 None) end _ h e in
    let (k, e2) = with_byte_lem (get_or contents 2 None) end _ h e1 in
    let (rows, r, e3) = with_words_lem (get_or contents 3 None) end _ h e2 in
    let (words, w, e4) = with_words_lem (get_or contents 5 None) end _ h e3 in
    let a : rows ≡ h.rows = cc in
    let b : words ≡ h.words = cc in
    (rw (sym a) (I 3 rows r), rw (sym b) (I 5 words w))

placed_from : (d : ℕ) (s : List ℕ) (at last : ℕ) (contents : List (Option Content)) (h : Sheet) → at ≤ length s → Inside s contents
    → sheet_from d s at last contents ≡ Ok h → Both s h
unfolding sheet_from
placed_from zero s at last contents h l I e = placed_in s contents (length s) h I e
placed_from (suc d) s at last contents h l I e =
    go (ltb at (length s)) refl (field_at s at last) refl (λ f. placed_from d s f.next f.tag (set contents f.tag (Some f.content)) h)
  where
    go : (b : Bool) → ltb at (length s) ≡ b → (r : Result Field Fault) → field_at s at last ≡ r
        → ((f : Field) → f.next ≤ length s → Inside s (set contents f.tag (Some f.content))
        → sheet_from d s f.next f.tag (set contents f.tag (Some f.content)) ≡ Ok h → Both s h) → Both s h
    go false q r g rec = placed_in s contents (length s) h I (rw q at e)
    go true q (Err c) g rec = no_answer (rw (q, g) at e)
    go true q (Ok f) g rec =
        let G = good s at last f l g in
        rec f G.within
        (inside-set s contents f.tag (Some f.content) I (λ span w. content_within s span f.tag (at + 3) (f.next - (at + 3))
        (omega (arith, G.longer, G.within)) (G.content_is ∙ w)))
        (rw (q, g) at e)

no_contents : (s : List ℕ) (m : ℕ) → Inside s (replicate m None)
no_contents s zero t span e = none s span e
no_contents s (suc m) zero span e = none s span e
no_contents s (suc m) (suc t) span e = no_contents s m t span e

-- the rows and words of a sheet that was read
both : (s : List ℕ) (h : Sheet) → sheet_of s ≡ Ok h → Both s h
unfolding sheet_of
both s h e = go (ltb max_sheet (length s)) refl
  where
    go : (b : Bool) → ltb max_sheet (length s) ≡ b → Both s h
    go true q = no_answer (rw q at e)
    go false q = placed_from (length s) s 0 0 (replicate (suc max_tag) None) h (omega arith) (no_contents s (suc max_tag)) (rw q at e)

-- a span within the bytes holds its words
placed : (s : List ℕ) (span : Span) → Within s span → Placed s span
placed s span h = record {
  inside = h;
  count = length-words s span.at span.count;
  each = word_of s span.at span.count;
}

-- what the reader promises follows from its answer
pub sheet_read : (s : List ℕ) (r : Result Sheet Fault) → r ≡ sheet_of s → SheetRead s r
sheet_read s r a = record {
  answer = a;
  rows = λ h e. placed s h.rows (both s h (sym a ∙ e)).0;
  words = λ h e. placed s h.words (both s h (sym a ∙ e)).1;
  written = λ w. read_back w s r a;
}
