-- What the closing line means: its four numbers are those that the lines of the words show, and each word is counted once.
use mathlib.Core.Path.{◌≡◌, refl, ap, ◌∙◌}
use mathlib.Core.List.{List, [], ◌∷◌, ◌++◌, map, append_assoc}
use Rattle.std.specs.Prelude.{Result, Ok, Err}
use Prim.Native.Nat.{ℕ, ◌^◌}
use native.Mathlib.Omega.{arith}
use lib.ListN.{length-map}
use Rattle.coding.specs.Weight.{dmin}
use Rattle.words.specs.Limits.{max_words, max_checks}
use Rattle.words.specs.Accepted.{Accepted}
use Rattle.answers.specs.Refusal.{Answer, done}
use Rattle.words.proofs.AcceptedLaws.{accepted_in}
use Rattle.outcomes.specs.Outcome.{word_in, decoded_as}
use Rattle.outcomes.specs.declared.ending.Reading.{Reading}
use Rattle.outcomes.specs.declared.ending.Outcome.{Outcome}
use Rattle.decoder.specs.Causes.{decode_answer}
use Rattle.decoder.proofs.DecodeCauseLaws.{batch_in}
use Rattle.sheet.specs.Sheet.{sheet_of}
use Rattle.sheet.specs.Words.{words_in}
use Rattle.sheet.specs.declared.answer.Fault.{Fault}
use Rattle.sheet.specs.declared.answer.Sheet.{Sheet}
use Rattle.sheet.proofs.SpanLaws.{length-words}
use Rattle.lines.specs.Text.{space, line_feed}
use Rattle.lines.specs.Closing.{closing_line}
use Rattle.tally.specs.Tally.{tally_of}
use Rattle.lines.specs.Line.{code_line, digits_of, ending}
use Rattle.sheet_run.specs.Output.{word_line, word_lines, lines_of, batch_output, printed, output_of}
use Rattle.lines.specs.Shown.{cut_at, after_blank, shown}
use Rattle.sheet_run.specs.Closed.{ClosingShows, Closed}
use Rattle.tally.specs.declared.tally.Tally.{Tally}
use Rattle.tally.proofs.TallyLaws.{tally_adds, tally_read}
use Rattle.sheet_run.proofs.BatchLaws.{decoded-tells}
use Rattle.lines.proofs.ShownLaws.{shown-ending, Without, without-append, cut_piece, after_blank_lem}
use Rattle.lines.proofs.LineMeaning.{line_first, code_text, code_text_lem, code_without, digits_of_without, ending-without}
use Rattle.lines.proofs.LineMeaning.{closing_text, closing_text_lem, closing_without, refused_begins, closing_says}

-- ---- the lines of an output, each without its line feed

abbrev word_text : ℕ → ℕ → Outcome ℕ → List ℕ
word_text n w o = digits_of n (word_in o w) ++ (space ∷ ending o)

word_text_lem : (n w : ℕ) (o : Outcome ℕ) → word_line n w o ≡ word_text n w o ++ line_feed ∷ []
unfolding word_line
word_text_lem n w o = simp append_assoc

word-without : (n w : ℕ) (o : Outcome ℕ) → Without line_feed (word_text n w o)
word-without n w o =
    without-append line_feed (digits_of n (word_in o w)) (space ∷ ending o) (digits_of_without line_feed (omega arith) n (word_in o w))
    (λ e. omega arith, ending-without o)

lines_of_words : (n : ℕ) (outcome : ℕ → Outcome ℕ) (words rest : List ℕ)
    → cut_at line_feed (word_lines n outcome words ++ rest) ≡ map (λ w. word_text n w (outcome w)) words ++ cut_at line_feed rest
unfolding word_lines
lines_of_words n outcome [] rest = refl
lines_of_words n outcome (w ∷ words) rest =
    ap (cut_at line_feed) (append_assoc (word_line n w (outcome w)) (word_lines n outcome words) rest)
    ∙ line_first (word_line n w (outcome w)) (word_text n w (outcome w)) (word_lines n outcome words ++ rest) (word_text_lem n w (outcome w))
    (word-without n w (outcome w))
    ∙ ap (λ (l : List (List ℕ)). word_text n w (outcome w) ∷ l) (lines_of_words n outcome words rest)

lines_of_batch : (n k d : ℕ) (outcome : ℕ → Outcome ℕ) (words : List ℕ) (t : Tally)
    → cut_at line_feed (code_line n k d ++ word_lines n outcome words ++ closing_line t)
    ≡ code_text n k d ∷ (map (λ w. word_text n w (outcome w)) words ++ closing_text t ∷ [])
lines_of_batch n k d outcome words t =
    ap (cut_at line_feed) (append_assoc (code_line n k d) (word_lines n outcome words) (closing_line t))
    ∙ line_first (code_line n k d) (code_text n k d) (word_lines n outcome words ++ closing_line t) (code_text_lem n k d) (code_without n k d)
    ∙ ap (λ (l : List (List ℕ)). code_text n k d ∷ l)
    (lines_of_words n outcome words (closing_line t)
    ∙ ap (λ (l : List (List ℕ)). map (λ w. word_text n w (outcome w)) words ++ l)
    (ap (cut_at line_feed) (closing_text_lem t) ∙ cut_piece line_feed (closing_text t) [] (closing_without t)))

-- ---- the closing line

-- the tally of what the lines of the words show is the tally of the outcomes
closing_shows : (n k : ℕ) (rows : List ℕ) → Accepted n k rows → (reading : Reading) (words : List ℕ)
    → tally_of (map (λ line. shown (after_blank line)) (map (λ w. word_text n w (decoded_as n rows reading w)) words))
    ≡ tally_of (map (decoded_as n rows reading) words)
closing_shows n k rows A reading words =
    tally_read (decoded_as n rows reading) (λ w. word_text n w (decoded_as n rows reading w)) (λ line. shown (after_blank line))
    (λ w. let o = decoded_as n rows reading w in
    ap shown (after_blank_lem (digits_of n (word_in o w)) (ending o) (digits_of_without space (omega arith) n (word_in o w)))
    ∙ shown-ending o (decoded-tells n k rows A reading w)) words

module _ (sheet : List ℕ) (s : Sheet) (e : sheet_of sheet ≡ Ok s) where
  abbrev rows_of : List ℕ
  rows_of = words_in sheet s.rows

  abbrev received : List ℕ
  received = words_in sheet s.words

  abbrev texts : List (List ℕ)
  texts = map (λ w. word_text s.n w (decoded_as s.n rows_of s.reading w)) received

  done_closed : Accepted s.n s.k rows_of → ClosingShows sheet (lines_of done s.n s.k rows_of s.reading received)
  done_closed A =
      let outcome = decoded_as s.n rows_of s.reading in
      let t = tally_of (map outcome received) in
      record {
        first = code_text s.n s.k (dmin rows_of);
        words = texts;
        last = closing_text t;
        lines = lines_of_batch s.n s.k (dmin rows_of) outcome received t;
        says = rw (closing_shows s.n s.k rows_of A s.reading received) (closing_says t);
        adds = tally_adds (map (λ line. shown (after_blank line)) texts) ∙ length-map texts (λ line. shown (after_blank line));
        received = λ h f.
            let q : s ≡ h = cc in
            length-map received (λ w. word_text s.n w (outcome w)) ∙ length-words sheet s.words.at s.words.count
            ∙ ap (λ (x : Sheet). x.words.count) q;
      }

  batch-closed : Closed sheet (batch_output s.n s.k rows_of s.reading received)
  unfolding batch_output
  batch-closed h = go (decode_answer s.n s.k rows_of s.reading received max_words max_words (2 ^ max_checks)) refl h
    where
      go : (a : Answer) → decode_answer s.n s.k rows_of s.reading received max_words max_words (2 ^ max_checks) ≡ a
          → Closed sheet (lines_of a s.n s.k rows_of s.reading received)
      go done q h =
          done_closed (accepted_in s.n s.k rows_of
          (batch_in s.n s.k rows_of s.reading received max_words max_words (2 ^ max_checks) q).matrix)
      go (Err c) q h = absurd (h (refused_begins _ _))

closed_as : (sheet : List ℕ) (a : Result Sheet Fault) → sheet_of sheet ≡ a → Closed sheet (printed sheet a)
closed_as sheet (Ok s) e = batch-closed sheet s e
closed_as sheet (Err f) e = λ h. absurd (h (refused_begins _ _))

-- the last line of every output that is no refusal says what its lines show
pub output_closed : (sheet : List ℕ) → Closed sheet (output_of sheet)
unfolding output_of
output_closed sheet = closed_as sheet (sheet_of sheet) refl
