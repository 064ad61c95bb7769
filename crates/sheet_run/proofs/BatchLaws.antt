-- Laws of a batch: the lines and the tally by the slots of Decode's lists are those of the outcomes.
use mathlib.Core.Path.{◌≡◌, refl, sym, ap, ap₂, ◌∙◌}
use mathlib.Core.Bool.{Bool, true, false}
use mathlib.Core.List.{List, [], ◌∷◌, ◌++◌, map}
use Rattle.std.specs.Prelude.{Err}
use Prim.Native.Nat.{ℕ, ◌^◌, ◌≤◌, ◌<◌}
use native.Mathlib.Decide.{ℕ_discrete}
use native.Mathlib.Omega.{arith}
use borrow.Author.Tests.{eq-eqb, ne_eqb}
use lib.ListN.{length, take, length-map, length-replicate}
use lib.Seq.{take_at}
use Rattle.coding.specs.Lists.{zeros}
use Rattle.coding.specs.Word.{weight}
use Rattle.coding.specs.Weight.{dmin}
use Rattle.coding.specs.Leader.{syndrome_of, leader_of}
use Rattle.words.specs.Limits.{max_words, max_checks}
use Rattle.answers.specs.Refusal.{Answer, done, number_of, value_of}
use Rattle.words.specs.Accepted.{Accepted}
use Rattle.answers.specs.declared.answer.Refusal.{Refusal}
use Rattle.words.proofs.AcceptedLaws.{accepted_in}
use Rattle.words.proofs.CodeLaws.{leader_weight}
use Rattle.outcomes.specs.Outcome.{takes, outcome_of, decoded_as, word_of, count_of}
use Rattle.decoder.specs.Causes.{decode_answer}
use Rattle.decoder.specs.Decoded.{Batch, Lent, Decoded}
use Rattle.outcomes.specs.declared.ending.Reading.{Reading}
use Rattle.decoder.proofs.DecodeCauseLaws.{Passed, batch_in}
use Rattle.lines.specs.Text.{space, line_feed}
use Rattle.lines.specs.Closing.{closing_line}
use Rattle.tally.specs.Tally.{tally_of}
use Rattle.sheet_run.specs.Output.{word_line, word_lines, lines_of, batch_output}
use Rattle.lines.specs.Line.{digits_of, ending, refused_line, code_line}
use Rattle.lines.specs.Batch.{slot_line, slot_lines}
use Rattle.tally.specs.Slots.{slot_outcome, slot_tally}
use Rattle.tally.proofs.TallyLaws.{bare, bare_says, Tells, slot_says, tally_read}

-- ---- the lines and the tally by the slots

-- a mended word has a count, and no word has 255 places
outcome_tells : (reading : Reading) (w e : ℕ) → weight e < 255 → Tells (outcome_of reading w e)
outcome_tells reading w e h = go (ℕ_discrete (weight e) 0) (takes reading (weight e)) refl
  where
    go : Dec (weight e ≡ 0) → (b : Bool) → takes reading (weight e) ≡ b → Tells (outcome_of reading w e)
    go (yes z) b q = rw (eq-eqb (weight e) 0 z) tt
    go (no n) true q = rw (ne_eqb (weight e) 0 n, q) (n, λ k. absurd (omega (arith, k, h)))
    go (no n) false q = rw (ne_eqb (weight e) 0 n, q) tt

module _ (n k : ℕ) (rows : List ℕ) (A : Accepted n k rows) (reading : Reading) where
  pub decoded-tells : (w : ℕ) → Tells (decoded_as n rows reading w)
  decoded-tells w =
      outcome_tells reading w (leader_of n rows (syndrome_of n rows w)) (omega (arith, leader_weight n k rows A w, A.range.checks))

  slot_decoded : (w : ℕ) → slot_outcome (count_of n rows reading w) ≡ bare (decoded_as n rows reading w)
  slot_decoded w = slot_says (decoded_as n rows reading w) (decoded-tells w)

  slot_lines_lem : (words : List ℕ)
      → slot_lines n (map (word_of n rows reading) words) (map (count_of n rows reading) words) ≡ word_lines n (decoded_as n rows reading) words
  unfolding slot_lines slot_line word_lines word_line
  slot_lines_lem [] = refl
  slot_lines_lem (w ∷ words) =
      ap₂ (λ (x y : List ℕ). digits_of n (word_of n rows reading w) ++ space ∷ x ++ line_feed ∷ [] ++ y)
      (ap ending (slot_decoded w) ∙ bare_says ending (λ c. refl) (λ c d. refl) (decoded_as n rows reading w)) (slot_lines_lem words)

  slot_tally_lem : (words : List ℕ) → slot_tally (map (count_of n rows reading) words) ≡ tally_of (map (decoded_as n rows reading) words)
  slot_tally_lem words = tally_read (decoded_as n rows reading) (count_of n rows reading) slot_outcome slot_decoded words

-- ---- what Decode leaves, with lists as long as a batch may have

module _ {B : Batch} {r : Answer} {after : Lent}
    (D : Decoded B (record { codewords = zeros max_words; counts = zeros max_words; work = zeros (2 ^ max_checks) }) r after) where
  answer_is : r ≡ decode_answer B.n B.k B.rows B.reading B.words max_words max_words (2 ^ max_checks)
  answer_is = rw length-replicate at D.answer

  pub refused_output : (c : Refusal) → r ≡ Err c → refused_line (number_of c) (value_of c) ≡ batch_output B.n B.k B.rows B.reading B.words
  unfolding batch_output
  refused_output c e = ap (λ (a : Answer). lines_of a B.n B.k B.rows B.reading B.words) (sym e ∙ answer_is)

  module _ (d : r ≡ done) where
    passed : Passed B.n B.k B.rows B.reading B.words max_words max_words (2 ^ max_checks)
    passed = batch_in B.n B.k B.rows B.reading B.words max_words max_words (2 ^ max_checks) (sym answer_is ∙ d)

    accepted : Accepted B.n B.k B.rows
    accepted = accepted_in B.n B.k B.rows passed.matrix

    pub few_words : length B.words ≤ max_words
    few_words = passed.listed.few

    pub few_places : B.n ≤ 32
    few_places = omega (arith, accepted.range.places)

    codewords_are : take (length B.words) after.codewords ≡ map (word_of B.n B.rows B.reading) B.words
    codewords_are =
        ap (take (length B.words)) (rw d at D.codewords)
        ∙ take_at (map (word_of B.n B.rows B.reading) B.words) _ (length B.words) (length-map B.words (word_of B.n B.rows B.reading))

    counts_are : take (length B.words) after.counts ≡ map (count_of B.n B.rows B.reading) B.words
    counts_are =
        ap (take (length B.words)) (rw d at D.distances)
        ∙ take_at (map (count_of B.n B.rows B.reading) B.words) _ (length B.words) (length-map B.words (count_of B.n B.rows B.reading))

    pub codewords_length : length (take (length B.words) after.codewords) ≡ length B.words
    codewords_length = ap length codewords_are ∙ length-map B.words (word_of B.n B.rows B.reading)

    pub counts-length : length (take (length B.words) after.counts) ≡ length B.words
    counts-length = ap length counts_are ∙ length-map B.words (count_of B.n B.rows B.reading)

    lines_are : slot_lines B.n (take (length B.words) after.codewords) (take (length B.words) after.counts)
        ≡ word_lines B.n (decoded_as B.n B.rows B.reading) B.words
    lines_are = ap₂ (slot_lines B.n) codewords_are counts_are ∙ slot_lines_lem B.n B.k B.rows accepted B.reading B.words

    tally_is : slot_tally (take (length B.words) after.counts) ≡ tally_of (map (decoded_as B.n B.rows B.reading) B.words)
    tally_is = ap slot_tally counts_are ∙ slot_tally_lem B.n B.k B.rows accepted B.reading B.words

    pub done_output : (x : ℕ) → x ≡ dmin B.rows
        → code_line B.n B.k x
        ++ slot_lines B.n (take (length B.words) after.codewords) (take (length B.words) after.counts)
        ++ closing_line (slot_tally (take (length B.words) after.counts)) ≡ batch_output B.n B.k B.rows B.reading B.words
    unfolding batch_output
    done_output x e =
        ap₂ (λ (l m : List ℕ). l ++ m) (ap₂ (λ (y : ℕ) (l : List ℕ). code_line B.n B.k y ++ l) e lines_are) (ap closing_line tally_is)
        ∙ ap (λ (a : Answer). lines_of a B.n B.k B.rows B.reading B.words) (sym d ∙ answer_is)
