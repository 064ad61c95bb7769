-- What a refusal of the output means: at 32 places none is under 3 or 7.
use mathlib.Core.Path.{◌≡◌, refl, sym, ap, ◌∙◌}
use mathlib.Core.List.{List, [], ◌∷◌, ◌++◌}
use Rattle.std.specs.Prelude.{Err}
use Prim.Native.Nat.{ℕ, ◌+◌, ◌^◌, ◌<◌}
use native.Mathlib.Omega.{arith}
use lib.ListN.{length, get_or}
use lib.Seq.{get_or-take}
use Rattle.words.specs.Limits.{max_words, max_checks}
use Rattle.answers.specs.Refusal.{Answer, done, number_of, value_of, Between, Never}
use Rattle.answers.specs.declared.answer.Refusal.{Refusal}
use Rattle.answers.proofs.AnswerLaws.{never}
use Rattle.outcomes.specs.declared.ending.Reading.{Reading}
use Rattle.decoder.specs.Causes.{decode_answer}
use Rattle.decoder.proofs.DecodeCauseLaws.{refused_number, decode_passes}
use Rattle.sheet.specs.Words.{words_in}
use Rattle.sheet.proofs.SpanLaws.{words_inside}
use Rattle.lines.specs.Decimal.{decimal}
use Rattle.lines.specs.Text.{written, space}
use Rattle.sheet_run.specs.Output.{lines_of, batch_output, output_of}
use Rattle.lines.specs.Line.{refused_line, code_line}
use Rattle.lines.specs.Shown.{Begins}
use Rattle.sheet_run.specs.Closed.{EveryWordShown}
use Rattle.lines.proofs.DecimalLaws.{decimal-small}

begins_at : (text out : List ℕ) (i : ℕ) → Begins text out → i < length text → get_or out i 0 ≡ get_or text i 0
begins_at text out i b h = sym (get_or-take (length text) out i 0 h) ∙ ap (λ (l : List ℕ). get_or l i 0) b

-- how a refusal under a number of one digit begins
abbrev refusal : ℕ → List ℕ
refusal m = written "refused " ++ (48 + m) ∷ space ∷ []

-- its digit is that of the number
refused_digit : (m value : ℕ) → m < 10 → get_or (refused_line m value) 8 0 ≡ 48 + m
unfolding refused_line
refused_digit m value h = rw (decimal-small m h) refl

module _ (k : ℕ) (rows : List ℕ) (reading : Reading) (words : List ℕ) where
  -- the output for a batch of words of 32 places begins with 32
  first_line : (m : ℕ) → Begins (refusal m) (lines_of done 32 k rows reading words) → ⊥
  unfolding code_line decimal
  first_line m b = omega (arith, begins_at (refusal m) (lines_of done 32 k rows reading words) 0 b (omega arith))

  no_refusal : (m : ℕ) → m < 10 → (a : Answer) → ((c : Refusal) → a ≡ Err c → Between 1 9 (number_of c)) → Never m a
      → Begins (refusal m) (lines_of a 32 k rows reading words) → ⊥
  no_refusal m h done f g b = first_line m b
  no_refusal m h (Err c) f g b =
      let n = f c refl in
      g c refl (omega (arith, refused_digit (number_of c) (value_of c) (omega (arith, n)), begins_at (refusal m) (refused_line (number_of c) (value_of c)) 8 b (omega arith)))

-- so that of a sheet of 32 places no row and no word is refused, each being four bytes
pub every_word-shown : (sheet : List ℕ) → ((i : ℕ) → get_or sheet i 0 < 2 ^ 8) → EveryWordShown sheet (output_of sheet)
unfolding output_of batch_output
every_word-shown sheet f h e w = rw (e, w) (shown 3 (omega arith) n.0, shown 7 (omega arith) n.1)
  where
    rows : List ℕ
    rows = words_in sheet h.rows

    words : List ℕ
    words = words_in sheet h.words

    answer : Answer
    answer = decode_answer 32 h.k rows h.reading words max_words max_words (2 ^ max_checks)

    n : Never 3 answer × Never 7 answer
    n = never 3 7 answer answer refl
        (decode_passes 32 h.k rows h.reading words max_words max_words (2 ^ max_checks) refl
        (words_inside sheet f h.rows.at h.rows.count) (words_inside sheet f h.words.at h.words.count))

    shown : (m : ℕ) → m < 10 → Never m answer → Begins (refusal m) (lines_of answer 32 h.k rows h.reading words) → ⊥
    shown m l g =
        no_refusal h.k rows h.reading words m l answer
        (refused_number 32 h.k rows h.reading words max_words max_words (2 ^ max_checks)) g
