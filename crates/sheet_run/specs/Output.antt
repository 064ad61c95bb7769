-- 01, "The code sheet", and 02, No. 1: what the program prints for the bytes of a sheet.
use Rattle.std.specs.Prelude.{Result, Ok, Err, List, [], ◌∷◌, ◌++◌, map, ℕ, ◌^◌}
use Rattle.coding.specs.Weight.{dmin}
use Rattle.words.specs.Limits.{max_words, max_checks}
use Rattle.answers.specs.Refusal.{Answer, done, number_of, value_of}
use Rattle.outcomes.specs.Outcome.{word_in, decoded_as}
use Rattle.decoder.specs.Causes.{decode_answer}
use Rattle.outcomes.specs.declared.ending.Reading.{Reading}
use Rattle.outcomes.specs.declared.ending.Outcome.{Outcome}
use Rattle.sheet.specs.Fault as fault
use Rattle.sheet.specs.Sheet.{sheet_of}
use Rattle.sheet.specs.Words.{words_in}
use Rattle.lines.specs.Text.{space, line_feed}
use Rattle.lines.specs.Line.{refused_line, code_line, digits_of, ending}
use Rattle.lines.specs.Closing.{closing_line}
use Rattle.tally.specs.Tally.{tally_of}
use Rattle.sheet.specs.declared.answer.Fault.{Fault}
use Rattle.sheet.specs.declared.answer.Sheet.{Sheet}

-- ---- the lines of the words

-- the line of a received word: the digits of the codeword and the count, or the received digits and "far"
unfoldable pub word_line : ℕ → ℕ → Outcome ℕ → List ℕ
word_line n w o = digits_of n (word_in o w) ++ space ∷ ending o ++ line_feed ∷ []

-- a line for each word
unfoldable pub word_lines : ℕ → (ℕ → Outcome ℕ) → List ℕ → List ℕ
word_lines n outcome [] = []
word_lines n outcome (w ∷ words) = word_line n w (outcome w) ++ word_lines n outcome words

-- ---- the output

-- the lines of a batch, the closing line last, or the one line of a refusal
abbrev pub lines_of : Answer → ℕ → ℕ → List ℕ → Reading → List ℕ → List ℕ
lines_of (Err c) n k rows reading words = refused_line (number_of c) (value_of c)
lines_of done n k rows reading words =
    code_line n k (dmin rows) ++ word_lines n (decoded_as n rows reading) words
    ++ closing_line (tally_of (map (decoded_as n rows reading) words))

-- the output for a batch; the lists lent to Decode are as long as 01 allows, so that causes 8 and 9 do not arise
unfoldable pub batch_output : ℕ → ℕ → List ℕ → Reading → List ℕ → List ℕ
batch_output n k rows reading words =
    lines_of (decode_answer n k rows reading words max_words max_words (2 ^ max_checks)) n k rows reading words

-- the output for a sheet that was read, or the one line of a refusal
abbrev pub printed : List ℕ → Result Sheet Fault → List ℕ
printed s (Ok h) =
    batch_output h.n h.k (words_in s h.rows) h.reading (words_in s h.words)
printed s (Err f) = refused_line (fault.number_of f) (fault.value_of f)

-- the bytes printed for the bytes of a sheet
unfoldable pub output_of : List ℕ → List ℕ
output_of s = printed s (sheet_of s)
