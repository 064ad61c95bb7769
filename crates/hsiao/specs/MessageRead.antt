-- 01, Message of the (72,64) code, and 02, No. 3: the message of a codeword is its data bits.
use Rattle.std.specs.Prelude.{◌≡◌, ◌↔◌, List, ℕ, eqb, Result, IsOk}
use Rattle.coding.specs.Columns.{split_syndrome}
use Rattle.answers.specs.Refusal.{Answer, done, unless, answered}
use Rattle.answers.specs.declared.answer.Refusal.TheVariants.{NoCodeword}
use Rattle.answers.specs.declared.answer.Refusal.{Refusal}
use Rattle.hsiao.specs.Table.{columns, split, IsCodeword}
use Rattle.hsiao.specs.declared.word.Word.{Word}

-- cause 10: a word with a syndrome other than 0, for c check places and these data columns
abbrev pub message_by : ℕ → List ℕ → Word → Answer
message_by c cols w = unless (eqb (split_syndrome c cols (split w)) 0) (NoCodeword 0) done

abbrev pub message_answer : Word → Answer
message_answer w = message_by 8 columns w

-- a word with a syndrome other than 0, which is no codeword, is refused; a codeword is read
pub record MessageRead (w : Word) (r : Result ℕ Refusal) : Type 0 where
  pub is : r ≡ answered (message_answer w) w.«data»
  pub read : IsOk r ↔ IsCodeword w
