-- Laws of the causes 6 to 8. Assumes nothing.
use mathlib.Core.Path.{◌≡◌, refl}
use mathlib.Core.List.{List}
use Prim.Native.Nat.{ℕ, ◌≤◌}
use lib.Dec.{eqb, leb}
use lib.ListN.{length}
use borrow.Author.Tests.{leb-true}
use Rattle.coding.specs.Matrix.{Inside}
use Rattle.words.specs.Limits.{max_words, width}
use Rattle.words.specs.Shape.{outside, first_outside}
use Rattle.words.specs.Lists.{many_answer, inside_answer, room_answer, list_answer}
use Rattle.answers.specs.declared.answer.Refusal.TheVariants.{TooManyWords, WordOutside, ShortOutput}
use Rattle.answers.proofs.AnswerLaws.{unless_done, first_done, and_then_done, Numbered, Neither, neither, unless-numbered, and_then-numbered}
use Rattle.words.proofs.ShapeLaws.{outside_none, every_passes}
use Rattle.answers.specs.Refusal.{done}

-- what 7 and 8 leave known when they pass
pub inside_in : (words : List ℕ) (places : ℕ) → inside_answer words places ≡ done → Inside places words
inside_in words places e = outside_none places words (first_done (outside places words) (length words) WordOutside done e).0

pub room_in : (results slots : ℕ) → room_answer results slots ≡ done → results ≤ slots
room_in results slots e = leb-true results slots (unless_done (leb results slots) ShortOutput done e).0

-- and causes 6 to 8
pub record Listed (words : List ℕ) (places slots : ℕ) : Type 0 where
  pub few : length words ≤ max_words
  pub inside : Inside places words
  pub room : length words ≤ slots

pub list_in : (words : List ℕ) (places slots : ℕ) → list_answer words places slots ≡ done → Listed words places slots
unfolding list_answer
list_in words places slots e =
    let (many, e1) = and_then_done (many_answer words) _ e in
    let (inside, room) = and_then_done (inside_answer words places) _ e1 in
    record {
      few = leb-true (length words) max_words (unless_done (leb (length words) max_words) TooManyWords done many).0;
      inside = inside_in words places inside;
      room = room_in (length words) slots room;
    }

-- ---- the numbers of these causes

module _ (P : ℕ → Type 0) (words : List ℕ) (places slots : ℕ) (six : P 6) (eight : P 8) where
  -- where the words pass 7, or 7 is such a number
  around : Numbered P (inside_answer words places) → Numbered P (list_answer words places slots)
  unfolding list_answer
  around seven =
      and_then-numbered P (many_answer words) _ (unless-numbered P (leb (length words) max_words) TooManyWords done six tt)
      (and_then-numbered P (inside_answer words places) _ seven (unless-numbered P (leb (length words) slots) ShortOutput done eight tt))

  pub list-numbered : P 7 → Numbered P (list_answer words places slots)
  list-numbered seven =
      around (unless-numbered P (eqb (first_outside places words) (length words)) (WordOutside (first_outside places words)) done seven tt)

-- 02, No. 7: at 32 places never 7
pub list_passes : (words : List ℕ) (places slots : ℕ) → places ≡ width → Inside width words → Numbered (Neither 3 7) (list_answer words places slots)
list_passes words places slots e f =
    around (Neither 3 7) words places slots (neither 3 7 6 refl refl) (neither 3 7 8 refl refl) (rw (e, every_passes WordOutside words f) tt)
