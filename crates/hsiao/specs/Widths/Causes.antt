-- 02, No. 3: causes 14 and 15, in this order before anything else.
use Rattle.std.specs.Prelude.{Bool, ◌&&◌, ℕ, ◌^◌, ltb}
use Rattle.answers.specs.Refusal.{Answer, done, unless}
use Rattle.answers.specs.declared.answer.Refusal.TheVariants.{NoWidth, BeyondWidth}
use Rattle.hsiao.specs.Widths.Code.{is_width, checks_of}
use Rattle.hsiao.specs.declared.word.Word.{Word}

-- a word with no one beyond its c check bits and m data bits
abbrev pub has_places : ℕ → ℕ → Word → Bool
has_places c m w = ltb w.check (2 ^ c) && ltb w.«data» (2 ^ m)

-- cause 14: the width is none of 16, 32, 64; then cause 15: the data or check bits are not within it; then the later causes
abbrev pub width_answer : ℕ → Bool → Answer → Answer
width_answer width within later = unless (is_width width) NoWidth (unless within BeyondWidth later)

abbrev pub data_answer : ℕ → ℕ → Answer
data_answer width bits = width_answer width (ltb bits (2 ^ width)) done

abbrev pub word_answer : ℕ → Word → Answer → Answer
word_answer width w later = width_answer width (has_places (checks_of width) width w) later
