-- 02, No. 3: what reading back with a width answers.
use Rattle.std.specs.Prelude.{◌≡◌, ◌↔◌, true, ℕ, Result, IsOk}
use Rattle.coding.specs.Columns.{SplitCodeword}
use Rattle.answers.specs.Refusal.{Answer, answered}
use Rattle.answers.specs.declared.answer.Refusal.{Refusal}
use Rattle.hsiao.specs.Table.{split}
use Rattle.hsiao.specs.MessageRead.{message_by}
use Rattle.hsiao.specs.Widths.Code.{is_width, checks_of, columns_of}
use Rattle.hsiao.specs.Widths.Causes.{word_answer}
use Rattle.hsiao.specs.declared.word.Word.{Word}

-- causes 14 and 15, then cause 10: a word with a syndrome other than 0
abbrev pub message_answer : ℕ → Word → Answer
message_answer width w = word_answer width w (message_by (checks_of width) (columns_of width) w)

-- a codeword of the width's code is read, and nothing else
pub record MessageRead (width : ℕ) (w : Word) (r : Result ℕ Refusal) : Type 0 where
  pub is : r ≡ answered (message_answer width w) w.«data»
  pub read : IsOk r ↔ ((is_width width ≡ true) × SplitCodeword (checks_of width) (columns_of width) (split w))
