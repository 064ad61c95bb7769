-- 02, No. 5: causes 16 and 17, and the causes of each call in order. Both come after 5 and before 6.
use Rattle.std.specs.Prelude.{List, Bool, ℕ, ◌*◌, eqb, leb, length}
use Rattle.coding.specs.Interleaving.{sorted_words}
use Rattle.words.specs.Limits.{max_depth}
use Rattle.answers.specs.Refusal.{unless, and_then, Answer, done}
use Rattle.words.specs.Shape.{first_outside}
use Rattle.words.specs.Accepted.{matrix_answer}
use Rattle.words.specs.Lists.{inside_answer, room_answer}
use Rattle.answers.specs.declared.answer.Refusal.TheVariants.{NoDepth, NoBits}
use Rattle.outcomes.specs.declared.ending.Reading.TheVariants.{Within}
use Rattle.decoder.specs.Causes.{lists_answer}
use Rattle.judging.specs.Causes.{code_answer}

-- no byte above 1: none with a one outside its one place
abbrev pub only_bits : List ℕ → Bool
only_bits bits = eqb (first_outside 1 bits) (length bits)

-- cause 16, a depth L that is not 1 to 16, then 17 for a list of so many bits
unfoldable pub length_answer : ℕ → ℕ → ℕ → Answer
length_answer n L m = unless (leb 1 L) NoDepth (unless (leb L max_depth) NoDepth (unless (eqb m (L * n)) NoBits done))

-- when received, 17 as well for a byte above 1
unfoldable pub bits_answer : ℕ → ℕ → List ℕ → Answer
bits_answer n L bits = and_then (length_answer n L (length bits)) (unless (only_bits bits) NoBits done)

-- causes 1 to 4, 16, 17 and 7: sending
abbrev pub interleave_answer : ℕ → ℕ → List ℕ → List ℕ → ℕ → Answer
interleave_answer n k rows words m = and_then (matrix_answer n k rows) (and_then (length_answer n (length words) m) (inside_answer words n))

-- causes 1 to 4, 16, 17 and 8: sorting back
abbrev pub deinterleave_answer : ℕ → ℕ → List ℕ → ℕ → List ℕ → ℕ → Answer
deinterleave_answer n k rows L bits slots = and_then (matrix_answer n k rows) (and_then (bits_answer n L bits) (room_answer L slots))

-- causes 1 to 5, 16, 17, and 6 to 9 of the sorted words: the decode within radius ρ
unfoldable pub interleaved_answer : ℕ → ℕ → List ℕ → ℕ → ℕ → List ℕ → ℕ → ℕ → ℕ → Answer
interleaved_answer n k rows ρ L bits slots bytes room =
    and_then (code_answer n k rows (Within ρ)) (and_then (bits_answer n L bits) (lists_answer n k (sorted_words n L bits) slots bytes room))
