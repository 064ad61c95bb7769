-- Laws of a cut list: more rows than any code has, or more words than a batch may have, are refused alike however many they are.
--
use mathlib.Core.Path.{◌≡◌, refl, sym, ap, ◌∙◌}
use mathlib.Core.Bool.{Bool, true, false}
use mathlib.Core.List.{List}
use Rattle.std.specs.Prelude.{Err}
use Prim.Native.Nat.{ℕ, ◌^◌, ◌≤◌, ◌<◌}
use native.Mathlib.Decide.{dec_le}
use native.Mathlib.Omega.{arith}
use borrow.Author.Tests.{ne_eqb, lt-leb}
use lib.ListN.{length, take}
use lib.Seq.{take_all, length-take-le}
use Rattle.words.specs.Limits.{in_range, max_rows, max_words, max_checks}
use Rattle.answers.specs.Refusal.{Answer, done, unless, and_then}
use Rattle.words.specs.Shape.{shape_answer}
use Rattle.words.specs.Lists.{list_answer}
use Rattle.answers.specs.declared.answer.Refusal.{Refusal}
use Rattle.answers.specs.declared.answer.Refusal.TheVariants.{OutOfRange, RowCount, TooManyWords}
use Rattle.words.proofs.ShapeLaws.{range_in}
use Rattle.words.proofs.AcceptedLaws.{shape_refused}
use Rattle.decoder.specs.Causes.{lists_answer, decode_answer}
use Rattle.judging.specs.Causes.{code_answer}
use Rattle.outcomes.specs.declared.ending.Reading.{Reading}
use Rattle.judging.proofs.CauseLaws.{at_matrix}
use Rattle.sheet_run.specs.Output.{lines_of, batch_output}

-- the number of rows is none that a code has: cause 1 or 2
shapes : (n k : ℕ) (rows : List ℕ) → max_rows < length rows → shape_answer n k rows ≡ unless (in_range n k) OutOfRange (Err RowCount)
unfolding shape_answer
shapes n k rows h = go (in_range n k) refl
  where
    go : (b : Bool) → in_range n k ≡ b → shape_answer n k rows ≡ unless (in_range n k) OutOfRange (Err RowCount)
    go true q = let R = range_in n k q in rw (q, ne_eqb (length rows) k (λ e. absurd (omega (arith, e, R.rows)))) refl
    go false q = rw q refl

unless_refused : (b : Bool) (c d : Refusal) → (e : Refusal) × (unless b c (Err d) ≡ Err e)
unless_refused true c d = (d, refl)
unless_refused false c d = (c, refl)

module _ (n k : ℕ) (reading : Reading) where
  abbrev decodes : List ℕ → List ℕ → Answer
  decodes rows words = decode_answer n k rows reading words max_words max_words (2 ^ max_checks)

  -- many rows
  many_rows : (rows words : List ℕ) (c : Refusal) → max_rows < length rows → unless (in_range n k) OutOfRange (Err RowCount) ≡ Err c
      → decodes rows words ≡ Err c
  unfolding decode_answer
  many_rows rows words c h e =
      let m = shape_refused n k rows c (shapes n k rows h ∙ e) in
      rw (sym (at_matrix n k rows reading c m) ∙ m) refl

  -- many words: the causes before, or cause 6
  abbrev before-words : List ℕ → Answer
  before-words rows = and_then (code_answer n k rows reading) (Err TooManyWords)

  many_words : (rows words : List ℕ) → max_words < length words → decodes rows words ≡ before-words rows
  unfolding decode_answer lists_answer list_answer
  many_words rows words h = rw (lt-leb (length words) max_words h) refl

  refuses : (a : Answer) (c : Refusal) → (d : Refusal) × (and_then a (Err c) ≡ Err d)
  refuses done c = (c, refl)
  refuses (Err d) c = (d, refl)

  before_refused : (rows : List ℕ) → (d : Refusal) × (before-words rows ≡ Err d)
  before_refused rows = refuses (code_answer n k rows reading) TooManyWords

  same_output : (rows words rows' words' : List ℕ) (c : Refusal) → decodes rows words ≡ Err c → decodes rows' words' ≡ Err c
      → batch_output n k rows reading words ≡ batch_output n k rows' reading words'
  unfolding batch_output
  same_output rows words rows' words' c e f =
      ap (λ (a : Answer). lines_of a n k rows reading words) e ∙ sym (ap (λ (a : Answer). lines_of a n k rows' reading words') f)

  -- so the lists may be cut to a rows, more than any code has, and b words, more than a batch may have
  pub cut_output : (a b : ℕ) → max_rows < a → max_words < b → (rows words : List ℕ)
      → batch_output n k (take a rows) reading (take b words) ≡ batch_output n k rows reading words
  cut_output a b more_rows more-words rows words = go (dec_le (length rows) a) (dec_le (length words) b)
    where
      go : Dec (length rows ≤ a) → Dec (length words ≤ b) → batch_output n k (take a rows) reading (take b words) ≡ batch_output n k rows reading words
      go (no r) w =
          let (c, e) = unless_refused (in_range n k) OutOfRange RowCount in
          let long : length (take a rows) ≡ a = length-take-le a rows (omega arith) in
          same_output (take a rows) (take b words) rows words c (many_rows (take a rows) (take b words) c (omega arith) e)
          (many_rows rows words c (omega arith) e)
      go (yes r) (yes w) = rw (take_all a rows r, take_all b words w) refl
      go (yes r) (no w) =
          let (c, e) = before_refused rows in
          let long : length (take b words) ≡ b = length-take-le b words (omega arith) in
          rw (take_all a rows r)
          (same_output rows (take b words) rows words c (many_words rows (take b words) (omega arith) ∙ e) (many_words rows words (omega arith) ∙ e))
