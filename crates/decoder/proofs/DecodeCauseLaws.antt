-- Laws of the causes 1 to 9 of Decode.
use mathlib.Core.Path.{◌≡◌, refl, sym, ◌∙◌}
use mathlib.Core.List.{List}
use Prim.Native.Nat.{ℕ, ◌-◌, ◌^◌, ◌≤◌, min}
use native.Mathlib.Omega.{arith}
use lib.Dec.{leb}
use lib.ListN.{length}
use borrow.Author.Tests.{leb-true, le-leb, eq-eqb}
use Rattle.coding.specs.Matrix.{Inside}
use Rattle.coding.specs.Weight.{dmin}
use Rattle.words.specs.Limits.{max_words, width}
use Rattle.answers.specs.Refusal.{Answer, done, number_of, and_then, Between}
use Rattle.words.specs.Widest.{EveryWord}
use Rattle.std.specs.Prelude.{Err}
use Rattle.words.specs.Shape.{first_outside}
use Rattle.words.specs.Accepted.{matrix_answer}
use Rattle.words.proofs.AcceptedLaws.{matrix_passes}
use Rattle.words.specs.Lists.{room_answer, list_answer}
use Rattle.answers.specs.declared.answer.Refusal.{Refusal}
use Rattle.answers.specs.declared.answer.Refusal.TheVariants.{ShortOutput, ShortWork}
use Rattle.answers.proofs.AnswerLaws.{unless_done, and_then_done, and_then_assoc, stays, goes}
use Rattle.answers.proofs.AnswerLaws.{Numbered, Neither, neither, unless-numbered, and_then-numbered, numbered_as, never, then_never}
use Rattle.words.proofs.ShapeLaws.{inside_none}
use Rattle.words.proofs.WordListLaws.{Listed, list_in, list-numbered, list_passes}
use Rattle.judging.specs.Causes.{radius_answer, code_answer}
use Rattle.decoder.specs.Causes.{lists_answer, decode_answer}
use Rattle.judging.proofs.CauseLaws.{radius-numbered, code_numbered}
use Rattle.leaders.specs.Leaders.{work_answer}
use Rattle.outcomes.specs.declared.ending.Reading.{Reading}

-- ---- the groups in order

module _ (n k : ℕ) (rows : List ℕ) (reading : Reading) (words : List ℕ) (slots bytes room : ℕ) where
  -- causes 1 to 8
  abbrev first_eight : Answer
  first_eight = and_then (code_answer n k rows reading) (list_answer words n (min slots bytes))

  eight_then_work : and_then first_eight (work_answer room (2 ^ (n - k))) ≡ decode_answer n k rows reading words slots bytes room
  unfolding decode_answer lists_answer
  eight_then_work = and_then_assoc (code_answer n k rows reading) (list_answer words n (min slots bytes)) _

  pub at_eight : (c : Refusal) → first_eight ≡ Err c → Err c ≡ decode_answer n k rows reading words slots bytes room
  at_eight c e = sym e ∙ stays first_eight (work_answer room (2 ^ (n - k))) c e ∙ eight_then_work

  -- cause 9
  pub at_work : first_eight ≡ done → work_answer room (2 ^ (n - k)) ≡ decode_answer n k rows reading words slots bytes room
  at_work e = goes first_eight (work_answer room (2 ^ (n - k))) e ∙ eight_then_work

  -- at 32 places neither 3 nor 7, where causes 1 to 8 give neither
  pub every_passes : EveryWord n first_eight → EveryWord n (decode_answer n k rows reading words slots bytes room)
  every_passes w e =
      let (three, seven) = w e in
      let last = work_answer room (2 ^ (n - k)) in
      let (a, b) = never 3 7 last last refl (unless-numbered (Neither 3 7) (leb (2 ^ (n - k)) room) ShortWork done (neither 3 7 9 refl refl) tt) in
      rw (sym eight_then_work) (then_never 3 first_eight last three a, then_never 7 first_eight last seven b)

  -- what is known when causes 1 to 9 have passed
  pub record Passed : Type 0 where
    pub matrix : matrix_answer n k rows ≡ done
    pub radius : radius_answer reading (dmin rows) ≡ done
    pub listed : Listed words n (min slots bytes)
    pub work : 2 ^ (n - k) ≤ room

  pub batch_in : decode_answer n k rows reading words slots bytes room ≡ done → Passed
  unfolding decode_answer code_answer lists_answer
  batch_in e =
      let (d, e2) = and_then_done (code_answer n k rows reading) _ e in
      let (a, b) = and_then_done (matrix_answer n k rows) _ d in
      let (c, e3) = and_then_done (list_answer words n (min slots bytes)) _ e2 in
      record {
        matrix = a;
        radius = b;
        listed = list_in words n (min slots bytes) c;
        work = leb-true (2 ^ (n - k)) room (unless_done (leb (2 ^ (n - k)) room) ShortWork done e3).0;
      }

-- ---- the numbers of these causes

room_numbered : (P : ℕ → Type 0) (results slots : ℕ) → P 8 → Numbered P (room_answer results slots)
room_numbered P results slots h = unless-numbered P (leb results slots) ShortOutput done h tt

work_numbered : (P : ℕ → Type 0) (room size : ℕ) → P 9 → Numbered P (work_answer room size)
work_numbered P room size h = unless-numbered P (leb size room) ShortWork done h tt

lists_numbered : (n k : ℕ) (words : List ℕ) (slots bytes room : ℕ) → Numbered (Between 6 9) (lists_answer n k words slots bytes room)
unfolding lists_answer
lists_numbered n k words slots bytes room =
    and_then-numbered (Between 6 9) (list_answer words n (min slots bytes)) (work_answer room (2 ^ (n - k)))
    (list-numbered (Between 6 9) words n (min slots bytes) (omega arith, omega arith) (omega arith, omega arith) (omega arith, omega arith))
    (work_numbered (Between 6 9) room (2 ^ (n - k)) (omega arith, omega arith))

-- words that are few enough and have no other place pass 6 and 7
pub lists_last : (n k : ℕ) (words : List ℕ) (slots bytes room : ℕ) → length words ≤ max_words → Inside n words
    → Numbered (Between 8 9) (lists_answer n k words slots bytes room)
unfolding lists_answer list_answer
lists_last n k words slots bytes room few inside =
    rw (le-leb (length words) max_words few, eq-eqb (first_outside n words) (length words) (inside_none n words inside))
    (and_then-numbered (Between 8 9) (room_answer (length words) (min slots bytes)) (work_answer room (2 ^ (n - k)))
    (room_numbered (Between 8 9) (length words) (min slots bytes) (omega arith, omega arith))
    (work_numbered (Between 8 9) room (2 ^ (n - k)) (omega arith, omega arith)))

decode_numbered : (n k : ℕ) (rows : List ℕ) (reading : Reading) (words : List ℕ) (slots bytes room : ℕ)
    → Numbered (Between 1 9) (decode_answer n k rows reading words slots bytes room)
unfolding decode_answer
decode_numbered n k rows reading words slots bytes room =
    and_then-numbered (Between 1 9) (code_answer n k rows reading) _
    (numbered_as (Between 1 9) (Between 1 5) (λ m h. (h.0, omega (arith, h))) (code_answer n k rows reading) (code_numbered n k rows reading))
    (numbered_as (Between 1 9) (Between 6 9) (λ m h. (omega (arith, h), h.1)) (lists_answer n k words slots bytes room)
    (lists_numbered n k words slots bytes room))

pub refused_number : (n k : ℕ) (rows : List ℕ) (reading : Reading) (words : List ℕ) (slots bytes room : ℕ) (c : Refusal)
    → decode_answer n k rows reading words slots bytes room ≡ Err c → Between 1 9 (number_of c)
refused_number n k rows reading words slots bytes room c e = rw e at (decode_numbered n k rows reading words slots bytes room)

-- neither 3 nor 7, where words are received
pub decode_passes : (n k : ℕ) (rows : List ℕ) (reading : Reading) (words : List ℕ) (slots bytes room : ℕ) → n ≡ width → Inside width rows
    → Inside width words → Numbered (Neither 3 7) (decode_answer n k rows reading words slots bytes room)
unfolding decode_answer code_answer lists_answer
decode_passes n k rows reading words slots bytes room e f g =
    and_then-numbered (Neither 3 7) (code_answer n k rows reading) _
    (and_then-numbered (Neither 3 7) (matrix_answer n k rows) _ (matrix_passes n k rows e f)
    (radius-numbered (Neither 3 7) reading (dmin rows) (neither 3 7 5 refl refl)))
    (and_then-numbered (Neither 3 7) (list_answer words n (min slots bytes)) _ (list_passes words n (min slots bytes) e g)
    (work_numbered (Neither 3 7) room (2 ^ (n - k)) (neither 3 7 9 refl refl)))
