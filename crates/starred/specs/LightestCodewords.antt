-- 02, No. 2: the lightest codeword of 01's codes, over the definition that the contract of Describe cites.
use Rattle.std.specs.Prelude.{◌≡◌}
use Rattle.coding.specs.Weight.{lightest_codeword}
use Rattle.golay_code.specs.Golay.{golay_rows}
use Rattle.starred.specs.Matrices.{digits, seven, five, other_five, six}

pub record LightestCodewords : Type 0 where
  -- rows 10111, 01101 and rows 10111, 11010 have one code: 11010, not 01101, which is met first in the one
  pub one_code : (lightest_codeword 5 five ≡ digits 5 0b11010) × (lightest_codeword 5 other_five ≡ digits 5 0b11010)
  -- 01's (7,4)
  pub of_seven : lightest_codeword 7 seven ≡ digits 7 0b1101000
  -- the code of 01's sheet
  pub of_six : lightest_codeword 6 six ≡ digits 6 0b111000
  -- the Golay matrix G. Not computed, since the definition searches 2^24 words: row 0 weighs 8, and no codeword but 0 is smaller
  pub of_golay : lightest_codeword 24 golay_rows ≡ 0x1B71
