-- 02, No. 3: what encoding with a width answers.
use Rattle.std.specs.Prelude.{◌≡◌, ℕ, Result, IsOk, IfOk}
use Rattle.coding.specs.Matrix.{encode}
use Rattle.answers.specs.Refusal.{answered}
use Rattle.answers.specs.declared.answer.Refusal.{Refusal}
use Rattle.hsiao.specs.Encoded.{EncodedBy}
use Rattle.hsiao.specs.Widths.Code.{checks_of, columns_of, WidthTable}
use Rattle.hsiao.specs.Widths.Causes.{data_answer}

-- data within the width have the check bits that make them a codeword of the width's code
pub record Encoded (width bits : ℕ) (r : Result ℕ Refusal) : Type 0 where
  pub is : r ≡ answered (data_answer width bits) (encode (columns_of width) bits)
  pub encoded : IfOk r (EncodedBy (checks_of width) (columns_of width) bits)
  pub table : IsOk r → WidthTable width
