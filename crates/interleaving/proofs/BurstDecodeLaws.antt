-- What the decode promises: its causes and their numbers, and bursts from demand 3 of each word.
use mathlib.Core.Path.{◌≡◌, refl, sym, ap, subst, ◌∙◌}
use mathlib.Core.Logic.{◌⊎◌, inl, inr}
use mathlib.Core.List.{List, map, ◌++◌}
use Prim.Native.Nat.{ℕ, ◌≤◌, ◌<◌}
use native.Mathlib.Omega.{arith}
use lib.ListN.{length, get_or, drop, length-append, length-map}
use borrow.Author.Tests.{le-leb, lt-leb}
use Rattle.coding.specs.Matrix.{Inside, Codeword}
use Rattle.coding.specs.Weight.{dmin}
use Rattle.coding.specs.Interleaving.{sorted_words, BurstRule}
use Rattle.coding.proofs.MatrixLaws.{codeword-lt}
use Rattle.coding.proofs.InterleavingLaws.{sorted_at, sorted_long, sorted-inside, burst_rule}
use Rattle.words.specs.Limits.{max_places}
use Rattle.answers.specs.Refusal.{number_of, and_then, Between, Answer, done}
use Rattle.words.specs.Widest.{EveryRow}
use Rattle.words.specs.Shape.{shape_answer}
use Rattle.answers.specs.declared.answer.Refusal.{Refusal}
use Rattle.answers.specs.declared.answer.Refusal.TheVariants.{OutOfRange}
use Rattle.answers.proofs.AnswerLaws.{refused_done, goes, Numbered, and_then-numbered, numbered_as}
use Rattle.answers.proofs.AnswerLaws.{never_of}
use Rattle.words.proofs.ShapeLaws.{every_row_of, rows_first}
use Rattle.words.proofs.AcceptedLaws.{shape_refused}
use Rattle.outcomes.specs.Outcome.{word_of}
use Rattle.outcomes.specs.declared.ending.Reading.{Reading}
use Rattle.outcomes.specs.declared.ending.Reading.TheVariants.{Within}
use Rattle.decoder.specs.Causes.{lists_answer, decode_answer}
use Rattle.judging.specs.Causes.{code_answer}
use Rattle.decoder.specs.Decoded.{Lent, Decoded}
use Rattle.judging.proofs.CauseLaws.{accepted_past, at_matrix, code_numbered}
use Rattle.decoder.proofs.DecodeCauseLaws.{lists_last}
use Rattle.interleaving.specs.Causes.{bits_answer, interleaved_answer}
use Rattle.interleaving.specs.Decoded.{Received, sorted_batch, InterleavedNumber, DecodedInterleaved}
use Rattle.interleaving.proofs.BitLaws.{bits_in, bits_numbered}
use Rattle.std.specs.Prelude.{Err}

-- ---- the causes in order

-- the numbers past the first five
abbrev Later : ℕ → Type 0
Later m = Between 8 9 m ⊎ Between 16 17 m

module _ (n k : ℕ) (rows : List ℕ) (ρ L : ℕ) (bits : List ℕ) (slots bytes room : ℕ) where
  abbrev answer : Answer
  answer = interleaved_answer n k rows ρ L bits slots bytes room

  -- no word has more places
  pub too_long : max_places < n → answer ≡ Err OutOfRange
  unfolding interleaved_answer shape_answer
  too_long h =
      let m = shape_refused n k rows OutOfRange (simp (le-leb 2 n (omega arith), lt-leb n max_places h)) in
      rw (sym (at_matrix n k rows (Within ρ) OutOfRange m) ∙ m) refl

  -- the first five, then 16 and 17
  pub code_refuses : (c : Refusal) → code_answer n k rows (Within ρ) ≡ Err c → answer ≡ Err c
  unfolding interleaved_answer
  code_refuses c e = rw e refl

  pub bits_refuse : (c : Refusal) → code_answer n k rows (Within ρ) ≡ done → bits_answer n L bits ≡ Err c → answer ≡ Err c
  unfolding interleaved_answer
  bits_refuse c e b = rw (e, b) refl

  -- where they pass, Decode's
  pub decode_decides : bits_answer n L bits ≡ done → decode_answer n k rows (Within ρ) (sorted_words n L bits) slots bytes room ≡ answer
  unfolding interleaved_answer decode_answer
  decode_decides e = ap (and_then (code_answer n k rows (Within ρ))) (goes (bits_answer n L bits) _ e)

  -- ---- the numbers: 6 and 7 never arise

  -- the words sorted back are few and have n places
  lists_numbered : bits_answer n L bits ≡ done → Numbered Later (lists_answer n k (sorted_words n L bits) slots bytes room)
  lists_numbered e =
      let (F, f) = bits_in n L bits e in
      numbered_as Later (Between 8 9) (λ m h. inl h) (lists_answer n k (sorted_words n L bits) slots bytes room)
      (lists_last n k (sorted_words n L bits) slots bytes room (omega (arith, F.small, sorted_long n L bits)) (sorted-inside n L bits f))

  later-numbered : Numbered Later (and_then (bits_answer n L bits) (lists_answer n k (sorted_words n L bits) slots bytes room))
  later-numbered = go (bits_answer n L bits) refl (bits_numbered n L bits)
    where
      go : (b : Answer) → bits_answer n L bits ≡ b → Numbered (Between 16 17) b
          → Numbered Later (and_then b (lists_answer n k (sorted_words n L bits) slots bytes room))
      go done e h = lists_numbered e
      go (Err c) e h = inr h

  numbered : Numbered InterleavedNumber answer
  unfolding interleaved_answer
  numbered =
      and_then-numbered InterleavedNumber (code_answer n k rows (Within ρ)) _
      (numbered_as InterleavedNumber (Between 1 5) (λ m h. inl h) (code_answer n k rows (Within ρ)) (code_numbered n k rows (Within ρ)))
      (numbered_as InterleavedNumber Later (λ m h. inr h) (and_then (bits_answer n L bits) (lists_answer n k (sorted_words n L bits) slots bytes room))
      later-numbered)

  pub listed_number : (c : Refusal) → answer ≡ Err c → InterleavedNumber (number_of c)
  listed_number c e = rw e at numbered

  -- and at 32 places 3 does not
  pub answer_every_row : EveryRow n (code_answer n k rows (Within ρ)) → EveryRow n answer
  unfolding interleaved_answer
  answer_every_row w =
      rows_first n (code_answer n k rows (Within ρ)) _ _ refl w (never_of Later 3 none _ later-numbered)
    where
      none : Later 3 → ⊥
      none (inl h) = omega (arith, h)
      none (inr h) = omega (arith, h)

-- ---- the promise

-- Decode's, of words that are named in another way
pub decoded_of : {n k : ℕ} {rows ws vs : List ℕ} {reading : Reading} {before after : Lent} {r : Answer} → ws ≡ vs
    → Decoded (record { n = n; k = k; rows = rows; reading = reading; words = ws }) before r after
    → Decoded (record { n = n; k = k; rows = rows; reading = reading; words = vs }) before r after
decoded_of {n} {k} {rows} {reading = reading} {before} {after} {r} e D =
    subst (λ (x : List ℕ). Decoded (record { n = n; k = k; rows = rows; reading = reading; words = x }) before r after) e D

module _ (R : Received) (before : Lent) where
  abbrev answer_to : Answer
  answer_to =
      answer R.n R.k R.rows R.radius R.depth R.bits (length before.codewords) (length before.counts) (length before.work)

  pub decode_refused : EveryRow R.n (code_answer R.n R.k R.rows (Within R.radius)) → (r : Answer) (c : Refusal) → r ≡ Err c → answer_to ≡ Err c
      → DecodedInterleaved R before r before
  decode_refused w r c e a = record {
    answer = e ∙ sym a;
    either = inl (c, e, listed_number R.n R.k R.rows R.radius R.depth R.bits _ _ _ c a, refl);
    every_row = every_row_of _ _ (a ∙ sym e) (answer_every_row R.n R.k R.rows R.radius R.depth R.bits _ _ _ w);
    each = λ d. refused_done (sym e ∙ d);
    bursts = λ d. refused_done (sym e ∙ d);
  }

  -- where the bits are in order, by what Decode promises of the words sorted back
  module _ (b : bits_answer R.n R.depth R.bits ≡ done) (r : Answer) (after : Lent) (D : Decoded (sorted_batch R) before r after) where
    rows_inside : r ≡ done → Inside R.n R.rows
    unfolding decode_answer
    rows_inside d =
        (accepted_past R.n R.k R.rows (Within R.radius)
        (lists_answer R.n R.k (sorted_words R.n R.depth R.bits) (length before.codewords) (length before.counts) (length before.work))
        (sym D.answer ∙ d)).inside

    words_there : r ≡ done → R.depth ≤ length after.codewords
    words_there d =
        let B = sorted_batch R in
        let new = map (word_of B.n B.rows B.reading) B.words in
        let e : after.codewords ≡ new ++ drop (length new) before.codewords = rw d at D.codewords in
        omega (arith, ap length e ∙ length-append new _, length-map B.words (word_of B.n B.rows B.reading), sorted_long R.n R.depth R.bits)

    burst_mended : r ≡ done → BurstRule (Codeword R.rows) R.n R.depth R.radius R.bits after.codewords after.counts
    burst_mended d =
        let n = R.n in
        let L = R.depth in
        let (F, f) = bits_in n L R.bits b in
        burst_rule (Codeword R.rows) n L (dmin R.rows) R.radius R.bits after.codewords after.counts (λ i. get_or after.counts i 0 ≡ 255)
        F.positive (codeword-lt n R.rows (rows_inside d)) f (words_there d)
        (λ i h. rw (sorted_at n L R.bits i h) at (D.within d R.radius refl i (rw (sorted_long n L R.bits) h)))

    pub decode_ends : DecodedInterleaved R before r after
    decode_ends =
        let a : r ≡ answer_to = D.answer ∙ decode_decides R.n R.k R.rows R.radius R.depth R.bits _ _ _ b in
        record { answer = a; either = numbers a D.either; every_row = λ h. (D.every_word h).0; each = λ _. D; bursts = burst_mended }
      where
        numbers : r ≡ answer_to → ((c : Refusal) × (r ≡ Err c) × Between 1 9 (number_of c) × (after ≡ before)) ⊎ (r ≡ done)
            → ((c : Refusal) × (r ≡ Err c) × InterleavedNumber (number_of c) × (after ≡ before)) ⊎ (r ≡ done)
        numbers a (inl (c, e, m, s)) = inl (c, e, listed_number R.n R.k R.rows R.radius R.depth R.bits _ _ _ c (sym a ∙ e), s)
        numbers a (inr d) = inr d
