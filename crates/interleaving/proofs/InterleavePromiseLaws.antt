-- What sending and sorting back promise, put together from their causes and from what the lists hold.
use mathlib.Core.Path.{◌≡◌, refl, sym, ap, ◌∙◌}
use mathlib.Core.List.{List, ◌++◌}
use Prim.Native.Nat.{ℕ, ◌+◌, ◌*◌, ◌<◌}
use native.Mathlib.Omega.{arith}
use lib.Dec.{leb}
use lib.ListN.{length, get_or, drop, get_or-append}
use Rattle.coding.specs.Lists.{tabulate}
use Rattle.coding.specs.Matrix.{Inside}
use Rattle.coding.specs.Interleaving.{sent_bit, interleaved, sorted_word, sorted_words}
use Rattle.coding.proofs.InterleavingLaws.{sent-bit, sorted-sent, sent-sorted, sorted_at, sorted_long, sorted-lt, sorted-bit}
use Rattle.words.specs.Limits.{width}
use Rattle.answers.specs.Refusal.{and_then, Between, Never, Answer, done}
use Rattle.words.specs.Widest.{EveryRow, EveryWord}
use Rattle.words.specs.Accepted.{matrix_answer}
use Rattle.words.specs.Lists.{inside_answer, room_answer}
use Rattle.answers.specs.declared.answer.Refusal.{Refusal}
use Rattle.answers.specs.declared.answer.Refusal.TheVariants.{WordOutside, ShortOutput}
use Rattle.answers.proofs.AnswerLaws.{refused_done, unless-numbered, never_done, never_of, then_never, kept, filled}
use Rattle.words.proofs.ShapeLaws.{every_row_of, rows_first}
use Rattle.words.proofs.ShapeLaws.{every_passes}
use Rattle.words.proofs.AcceptedLaws.{matrix-numbered}
use Rattle.words.proofs.WordListLaws.{inside_in}
use Rattle.linear.specs.Judged.{Judged}
use Rattle.interleaving.specs.Causes.{length_answer, bits_answer, interleave_answer, deinterleave_answer}
use Rattle.interleaving.specs.Interleaved.{Interleaved}
use Rattle.interleaving.specs.Deinterleaved.{Deinterleaved}
use Rattle.interleaving.proofs.BitLaws.{length_in, length-numbered, bits_in, bits_numbered}
use Rattle.std.specs.Prelude.{Err}

-- ---- sending

module _ (n k : ℕ) (rows words before : List ℕ) (m : Answer) (J : Judged n k rows m) (f : Inside width words) where
  w : EveryRow n (matrix_answer n k rows)
  w = every_row_of _ _ J.answer J.every_row

  -- at 32 places neither 3 nor 7
  every_word : EveryWord n (interleave_answer n k rows words (length before))
  every_word e = (
    rows_first n (matrix_answer n k rows) _ _ refl w (later 3 (λ h. omega (arith, h))) e,
    then_never 7 (matrix_answer n k rows) _ (never_of (Between 1 4) 7 (λ h. omega (arith, h)) _ (matrix-numbered n k rows))
        (later 7 (λ h. omega (arith, h))),
  )
    where
      passes : inside_answer words n ≡ done
      passes = rw e (every_passes WordOutside words f)

      later : (m : ℕ) → (Between 16 17 m → ⊥) → Never m (and_then (length_answer n (length words) (length before)) (inside_answer words n))
      later m g =
          then_never m (length_answer n (length words) (length before)) _
          (never_of (Between 16 17) m g _ (length-numbered n (length words) (length before))) (rw passes (never_done m))

  pub interleave_refused : (r : Answer) (c : Refusal) → r ≡ Err c → interleave_answer n k rows words (length before) ≡ Err c
      → Interleaved n k rows words before r before
  interleave_refused r c e a = record {
    answer = e ∙ sym a;
    every_word = λ h. rw (e ∙ sym a) (every_word h);
    bits = rw e refl;
    travels = λ d. refused_done (sym e ∙ d);
    back = λ d. refused_done (sym e ∙ d);
  }

  pub interleave_done : matrix_answer n k rows ≡ done → length_answer n (length words) (length before) ≡ done → inside_answer words n ≡ done
      → (after : List ℕ) → after ≡ tabulate (sent_bit words) (length before) → Interleaved n k rows words before done after
  interleave_done d l i after e =
      let all : after ≡ interleaved n words = e ∙ ap (tabulate (sent_bit words)) (length_in n (length words) (length before) l).long in
      record {
        answer = rw (d, l, i) refl;
        every_word = λ _. (never_done 3, never_done 7);
        bits = all;
        travels = λ _ i j h k. ap (λ (x : List ℕ). get_or x (length words * j + i) 0) all ∙ sent-bit n words i j h k;
        back = λ _. ap (sorted_words n (length words)) all ∙ sorted-sent n words (inside_in words n i);
      }

-- ---- sorting back

module _ (n k : ℕ) (rows : List ℕ) (L : ℕ) (bits before : List ℕ) (m : Answer) (J : Judged n k rows m) where
  -- at 32 places never 3
  every_row : EveryRow n (deinterleave_answer n k rows L bits (length before))
  every_row =
      rows_first n (matrix_answer n k rows) _ _ refl (every_row_of _ _ J.answer J.every_row)
      (then_never 3 (bits_answer n L bits) _ (never_of (Between 16 17) 3 (λ h. omega (arith, h)) _ (bits_numbered n L bits))
      (never_of (Between 8 8) 3 (λ h. omega (arith, h)) _
      (unless-numbered (Between 8 8) (leb L (length before)) ShortOutput done (omega arith, omega arith) tt)))

  pub deinterleave_refused : (r : Answer) (c : Refusal) → r ≡ Err c → deinterleave_answer n k rows L bits (length before) ≡ Err c
      → Deinterleaved n k rows L bits before r before
  deinterleave_refused r c e a = record {
    answer = e ∙ sym a;
    every_row = every_row_of _ _ (a ∙ sym e) every_row;
    slots = kept r c e _ before;
    inside = λ d. refused_done (sym e ∙ d);
    travelled = λ d. refused_done (sym e ∙ d);
    again = λ d. refused_done (sym e ∙ d);
  }

  pub deinterleave_done : matrix_answer n k rows ≡ done → bits_answer n L bits ≡ done → room_answer L (length before) ≡ done
      → (after : List ℕ) → after ≡ sorted_words n L bits ++ drop L before → Deinterleaved n k rows L bits before done after
  deinterleave_done d b o after e =
      let (F, f) = bits_in n L bits b in
      record {
        answer = rw (d, b, o) refl;
        every_row = λ _. never_done 3;
        slots = filled (sorted_words n L bits) before after L (sorted_long n L bits) e;
        inside = λ _ i h. rw (slot i h) (sorted-lt n L bits f i);
        travelled = λ _ i j h k. rw (slot i h) (sorted-bit n L bits f i j k);
        again = λ _. sent-sorted n L bits F.positive f F.long;
      }
    where
      slot : (i : ℕ) → i < L → get_or after i 0 ≡ sorted_word n L bits i
      slot i h =
          ap (λ (x : List ℕ). get_or x i 0) e ∙ get_or-append (sorted_words n L bits) (drop L before) 0 i (rw (sorted_long n L bits) h)
          ∙ sorted_at n L bits i h
