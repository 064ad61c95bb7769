-- The value of the table of sheets, by computation.
use mathlib.Core.Path.{◌≡◌, refl, ◌∙◌}
use mathlib.Core.List.{List, [], ◌∷◌, ◌++◌}
use Prim.Native.Nat.{ℕ, ◌≤◌}
use lib.Dec.{lit<}
use lib.Count.{ones, count_trailing_zeros}
use lib.ListN.{length}
use Rattle.coding.specs.Lists.{zeros}
use Rattle.coding.specs.Word.{parity}
use Rattle.coding.specs.Matrix.{message_of}
use Rattle.coding.specs.Weight.{dmin}
use Rattle.words.specs.Shape.{shape_answer}
use Rattle.words.specs.Accepted.{matrix_answer}
use Rattle.words.specs.Lists.{list_answer}
use Rattle.outcomes.specs.declared.ending.Reading.TheVariants.{Nearest}
use Rattle.decoder.specs.Causes.{lists_answer, decode_answer}
use Rattle.judging.specs.Causes.{code_answer}
use Rattle.sheet.specs.Field.{content_of, field_at}
use Rattle.sheet.specs.Sheet.{sheet_from, sheet_of}
use Rattle.sheet.specs.Words.{word_at, words_at}
use Rattle.sheet.specs.Written.{WrittenSheet, sheet_bytes}
use Rattle.sheet.proofs.WrittenLaws.{read_back}
use Rattle.lines.specs.Decimal.{decimal}
use Rattle.lines.specs.Text.{written}
use Rattle.lines.specs.Closing.{closing_line}
use Rattle.tally.specs.Tally.{tally_of}
use Rattle.sheet_run.specs.Output.{word_line, word_lines, batch_output, output_of}
use Rattle.lines.specs.Line.{refused_line, code_line, digits_of}
use Rattle.starred.specs.Sheets.{full, lines, Sheets}

-- a written sheet prints what its batch does: no word has to be computed from the bytes
written_output : (w : WrittenSheet) (s : List ℕ) → s ≡ sheet_bytes w → length s ≤ 4096
    → output_of s ≡ batch_output w.n w.k w.rows w.reading w.words
unfolding output_of
written_output w s e h =
    let B = read_back w s (sheet_of s) refl e h in
    rw (B.is_read, B.n, B.k, B.rows, B.reading, B.words)

most_words : output_of full ≡ written "2 1 2 0\n" ++ lines 512 (written "00 0\n") ++ written "clean 512 mended 0 far 0 places 0\n"
unfolding ones count_trailing_zeros parity message_of dmin shape_answer matrix_answer list_answer code_answer lists_answer decode_answer decimal tally_of closing_line
    code_line digits_of word_line word_lines batch_output
most_words =
    written_output (record { n = 2; k = 1; rows = 3 ∷ []; reading = Nearest; words = zeros 512 }) full refl (lit< tt)
    ∙ refl

pub sheets : Sheets
unfolding ones count_trailing_zeros parity message_of dmin shape_answer matrix_answer list_answer code_answer lists_answer decode_answer content_of field_at sheet_from
    sheet_of word_at words_at decimal tally_of closing_line refused_line code_line digits_of word_line word_lines batch_output output_of
sheets = record {
  nearest = refl;
  within = refl;
  refused = refl;
  no_words = refl;
  empty = refl;
  even = refl;
  four_bytes = refl;
  out_of_range = refl;
  row_count = refl;
  row_outside = refl;
  dependent = refl;
  most_words = most_words;
  many_words = refl;
  word_outside = refl;
  cut = refl;
  past_end = refl;
  wrong_length = (refl, refl);
  unknown_tag = (refl, refl);
  not_rising = (refl, refl);
  missing = refl;
  too_long = refl;
  longest = refl;
}
