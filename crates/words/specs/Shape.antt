-- Causes 1 to 3: the numbers n and k, the number of rows, and words of n places.
use Rattle.std.specs.Prelude.{List, Bool, not, ℕ, ◌^◌, eqb, ltb, length, get_or, Option, position}
use Rattle.coding.specs.Lists.{first}
use Rattle.words.specs.Limits.{in_range}
use Rattle.answers.specs.Refusal.{unless, refuse_first, Answer, done}
use Rattle.answers.specs.declared.answer.Refusal.TheVariants.{OutOfRange, RowCount, RowOutside}

-- word i has a one at place n or beyond
abbrev pub outside : ℕ → List ℕ → ℕ → Bool
outside n words i = not (ltb (get_or words i 0) (2 ^ n))

-- the first such word, or the number of words where there is none
abbrev pub first_outside : ℕ → List ℕ → ℕ
first_outside n words = first (outside n words) (length words)

-- and as an Option, none where there is none
abbrev pub some_outside : ℕ → List ℕ → Option ℕ
some_outside n words = position (λ w. not (ltb w (2 ^ n))) words

-- causes 1 to 3, in order
unfoldable pub shape_answer : ℕ → ℕ → List ℕ → Answer
shape_answer n k rows =
    unless (in_range n k) OutOfRange
    (unless (eqb (length rows) k) RowCount
    (refuse_first (outside n rows) (length rows) RowOutside done))
