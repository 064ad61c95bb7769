-- Laws of Encode and Message: what they promise, from the answer and the slots; the first word that is no codeword is found by its
-- syndrome; and the messages beside the reduced rows read each codeword back.
use mathlib.Core.Path.{◌≡◌, refl, sym, ap, ◌∙◌}
use mathlib.Core.Logic.{◌≢◌}
use mathlib.Core.List.{List, map}
use mathlib.Core.Bool.{Bool, true, false, not}
use Prim.Native.Nat.{ℕ, ◌^◌, ◌<◌}
use native.Mathlib.Omega.{arith}
use lib.Dec.{eqb}
use lib.ListN.{length, get_or, length-map}
use borrow.Author.Tests.{eq-eqb, ne_eqb, not-false}
use Rattle.std.specs.Prelude.{Some, None}
use Rattle.coding.specs.Lists.{first}
use Rattle.coding.specs.Matrix.{encode, Codeword, Inside, message_of, is_codeword}
use Rattle.coding.specs.Reduce.{reduce}
use Rattle.coding.specs.Reduced.{Traced}
use Rattle.coding.specs.Check.{checks, syndrome}
use Rattle.coding.specs.Leader.{syndrome_of}
use Rattle.coding.proofs.ListLaws.{map_same}
use Rattle.coding.proofs.SearchLaws.{first_same, first-before, codeword-test, true_false}
use Rattle.coding.proofs.CheckLaws.{encode-place}
use Rattle.coding.proofs.CheckRowLaws.{syndrome-codeword}
use Rattle.coding.proofs.TraceLaws.{message_trace, trace_message}
use Rattle.coding.proofs.WidthLaws.{inside_wide}
use Rattle.words.specs.Limits.{width}
use Rattle.answers.specs.Refusal.{Answer, done, and_then, refuse_first, Between, Never, on_done}
use Rattle.words.specs.Widest.{EveryRow, EveryWord}
use Rattle.words.specs.Shape.{first_outside, some_outside}
use Rattle.words.specs.Lists.{list_answer}
use Rattle.answers.specs.declared.answer.Refusal.TheVariants.{NoCodeword}
use Rattle.words.proofs.WordListLaws.{list_in, list-numbered, list_passes}
use Rattle.answers.proofs.AnswerLaws.{goes, Numbered, Neither, neither, unless-numbered, and_then-numbered, never, never_of, then_never}
use Rattle.words.proofs.ShapeLaws.{rows_first, outside-some, outside-nothing}
use Rattle.words.proofs.ResultLaws.{first_nonzero}
use Rattle.words.specs.Accepted.{matrix_answer, Accepted}
use Rattle.words.proofs.AcceptedLaws.{accepted_in, matrix-numbered}
use Rattle.words.proofs.CodeLaws.{one_is, back_is}
use Rattle.encoder.specs.Encoded.{encode_answer, Encoded}
use Rattle.encoder.specs.MessagesRead.{other, message_answer, MessagesRead}

module _ (n k : ℕ) (rows : List ℕ) (A : Accepted n k rows) where
  -- so the first word whose syndrome is not 0 is the first that is no codeword
  pub other_is : (words : List ℕ) → Inside n words
      → first (λ i. not (eqb (syndrome_of n rows (get_or words i 0)) 0)) (length words) ≡ first (other rows words) (length words)
  other_is words f = first_same _ _ (length words) (λ i h. ap not (same (get_or words i 0) (f i h)))
    where
      same : (w : ℕ) → w < 2 ^ n → eqb (syndrome_of n rows w) 0 ≡ is_codeword rows w
      same w h = go (is_codeword rows w) refl
        where
          go : (b : Bool) → is_codeword rows w ≡ b → eqb (syndrome_of n rows w) 0 ≡ b
          go true e = eq-eqb _ 0 ((syndrome-codeword n rows A.inside w h).1 ((codeword-test rows w).0 e))
          go false e = ne_eqb _ 0 (λ z. true_false ((codeword-test rows w).1 ((syndrome-codeword n rows A.inside w h).0 z)) e)

  -- the messages beside the reduced rows read each codeword back
  pub messages_are : (M : List ℕ) → Traced rows M (reduce 32 rows) → (words : List ℕ) → first (other rows words) (length words) ≡ length words
      → map (encode M) words ≡ map (message_of rows) words
  messages_are M t words none = map_same (encode M) (message_of rows) words (λ i h. sym (same (get_or words i 0) (is_codeword_lem i h)))
    where
      is_codeword_lem : (i : ℕ) → i < length words → Codeword rows (get_or words i 0)
      is_codeword_lem i h =
          (codeword-test rows (get_or words i 0)).0
          (not-false _ (first-before (other rows words) (length words) i (rw none h)))

      same : (w : ℕ) → Codeword rows w → message_of rows w ≡ encode M w
      same w c =
          trace_message rows A.independent (encode M w) w (message_trace 32 rows M
          (inside_wide n 32 (omega (arith, A.range.places)) rows A.inside) t w c)

-- at 32 places Message is never refused under 3 or 7
message_passes : (n k : ℕ) (rows words : List ℕ) (slots : ℕ) → EveryRow n (matrix_answer n k rows) → Inside width words
    → EveryWord n (message_answer n k rows words slots)
message_passes n k rows words slots w g e = (
  then_never 3 (matrix_answer n k rows) later (w e) both.0,
  then_never 7 (matrix_answer n k rows) later (never_of (Between 1 4) 7 (λ h. omega (arith, h)) _ (matrix-numbered n k rows)) both.1,
)
  where
    later : Answer
    later = and_then (list_answer words n slots) (refuse_first (other rows words) (length words) NoCodeword done)

    both : Never 3 later × Never 7 later
    both = never 3 7 later later refl (and_then-numbered (Neither 3 7) (list_answer words n slots) _ (list_passes words n slots e g)
        (unless-numbered (Neither 3 7) (eqb (first (other rows words) (length words)) (length words)) (NoCodeword (first (other rows words) (length words)))
        done (neither 3 7 10 refl refl) tt))

-- what Encode and Message promise, from the answer and the slots
module _ (n k : ℕ) (rows words before : List ℕ) (r : Answer) (after : List ℕ) where
  pub encoded : EveryRow n (matrix_answer n k rows) → r ≡ encode_answer n k rows words (length before) → after ≡ on_done r (map (encode rows) words) before
      → Encoded n k rows words before r after
  encoded w a s = record {
    answer = a;
    every_row = rows_first n (matrix_answer n k rows) _ r a w (never_of (Between 6 8) 3 (λ h. omega (arith, h)) _ listed);
    slots = s;
    product = encode-place rows;
    back = λ A u h. back_is n k rows A u h;
  }
    where
      listed : Numbered (Between 6 8) (list_answer words k (length before))
      listed = list-numbered (Between 6 8) words k (length before) (omega arith, omega arith) (omega arith, omega arith) (omega arith, omega arith)

  pub messages_read : EveryRow n (matrix_answer n k rows) → Inside width words → r ≡ message_answer n k rows words (length before)
      → after ≡ on_done r (map (message_of rows) words) before → MessagesRead n k rows words before r after
  messages_read w g a s = record {
    answer = a;
    slots = s;
    every_word = rw a (message_passes n k rows words (length before) w g);
    one = λ A w c. one_is n k rows A w c;
    back = λ A u h. back_is n k rows A u h;
  }

-- Message past causes 1 to 8: the last cause decides, and the word found by its syndrome is the first that is no codeword
module _ (n k : ℕ) (rows words : List ℕ) (slots : ℕ) (m : matrix_answer n k rows ≡ done) (l : list_answer words n slots ≡ done) where
  pub past : (last : Answer) → last ≡ and_then (matrix_answer n k rows) (and_then (list_answer words n slots) last)
  past last = goes (list_answer words n slots) last l ∙ goes (matrix_answer n k rows) (and_then (list_answer words n slots) last) m

  -- it is found by its syndrome, or there is none
  module _ (cs : List ℕ) (e : cs ≡ checks n rows) where
    listed : first_outside 0 (map (syndrome cs) words) ≡ first (other rows words) (length words)
    listed =
        first_nonzero (syndrome cs) words ∙ ap (λ (h : List ℕ). first (λ i. not (eqb (syndrome h (get_or words i 0)) 0)) (length words)) e
        ∙ other_is n k rows (accepted_in n k rows m) words (list_in words n slots l).inside

    pub other-found : (i : ℕ) → Some i ≡ some_outside 0 (map (syndrome cs) words)
        → (i ≡ first (other rows words) (length words)) × (i ≢ length words)
    other-found i s =
        let (f, ne) = outside-some 0 (map (syndrome cs) words) i s in
        (f ∙ listed, λ z. ne (z ∙ sym (length-map words (syndrome cs))))

    pub other-none : None ≡ some_outside 0 (map (syndrome cs) words) → first (other rows words) (length words) ≡ length words
    other-none s = sym listed ∙ outside-nothing 0 (map (syndrome cs) words) s ∙ length-map words (syndrome cs)
