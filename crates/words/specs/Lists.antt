-- Causes 6 to 8: the list of words of a call and the room for its results.
use Rattle.std.specs.Prelude.{List, ℕ, leb, length}
use Rattle.words.specs.Limits.{max_words}
use Rattle.answers.specs.Refusal.{unless, refuse_first, and_then, Answer, done}
use Rattle.words.specs.Shape.{outside}
use Rattle.answers.specs.declared.answer.Refusal.TheVariants.{TooManyWords, WordOutside, ShortOutput}

-- cause 6: more than 512 words
abbrev pub many_answer : List ℕ → Answer
many_answer words = unless (leb (length words) max_words) TooManyWords done

-- cause 7: a word with a one outside so many places
abbrev pub inside_answer : List ℕ → ℕ → Answer
inside_answer words places = refuse_first (outside places words) (length words) WordOutside done

-- cause 8: fewer slots than results
abbrev pub room_answer : ℕ → ℕ → Answer
room_answer results slots = unless (leb results slots) ShortOutput done

-- causes 6 to 8 in order, for words of so many places and an output list of so many slots
unfoldable pub list_answer : List ℕ → ℕ → ℕ → Answer
list_answer words places slots = and_then (many_answer words) (and_then (inside_answer words places) (room_answer (length words) slots))
