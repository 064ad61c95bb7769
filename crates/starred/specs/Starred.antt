-- 01, "Worked words": the starred cases as one table, a field for each, in 01's order and digits, over the definitions that the
-- contracts cite.
use Rattle.std.specs.Prelude.{◌≡◌, [], ◌∷◌, map, Err}
use Rattle.coding.specs.Lists.{tabulate}
use Rattle.coding.specs.Matrix.{encode, message_of}
use Rattle.coding.specs.Reduce.{reduced_rows}
use Rattle.coding.specs.Weight.{dmin, weight_counts}
use Rattle.coding.specs.Leader.{leader_of}
use Rattle.answers.specs.Refusal.{number_of, value_of, done}
use Rattle.answers.specs.declared.answer.Refusal.TheVariants.{Dependent}
use Rattle.words.specs.Accepted.{matrix_answer}
use Rattle.outcomes.specs.declared.ending.Reading.TheVariants.{Nearest}
use Rattle.outcomes.specs.declared.ending.Outcome.TheVariants.{Mended, Far}
use Rattle.outcomes.specs.Outcome.{decoded_as}
use Rattle.golay_code.specs.Golay.{golay_rows}
use Rattle.golay.specs.Decoded.{golay_outcome}
use Rattle.hsiao.specs.Table.{columns}
use Rattle.hsiao.specs.Outcome.{outcome_of}
use Rattle.starred.specs.Matrices.{digits, of_weight, seven, five, four}

pub record Starred : Type 0 where
  -- (7,4) with rows 1101000, 0110100, 1110010, 1010001: message 1101 gives 0001101
  pub seven_encoded : (matrix_answer 7 4 seven ≡ done) × (encode seven (digits 4 0b1101) ≡ digits 7 0b0001101)
  -- its reduced rows: 1000110, 0100011, 0010111, 0001101; dmin 3
  pub seven-reduced :
      (reduced_rows 7 seven ≡ map (digits 7) (0b1000110 ∷ 0b0100011 ∷ 0b0010111 ∷ 0b0001101 ∷ [])) × (dmin seven ≡ 3)
  -- its weights: one of 0, seven of 3, seven of 4, one of 7
  pub seven_weights : weight_counts 7 seven ≡ 1 ∷ 0 ∷ 0 ∷ 7 ∷ 7 ∷ 0 ∷ 0 ∷ 1 ∷ []
  -- 1001111 gives 1001011, count 1, message 1011; 1000100 gives 1000110, count 1
  pub seven-decoded :
      (decoded_as 7 seven Nearest (digits 7 0b1001111) ≡ Mended (digits 7 0b1001011) 1)
      × (message_of seven (digits 7 0b1001011) ≡ digits 4 0b1011)
      × (decoded_as 7 seven Nearest (digits 7 0b1000100) ≡ Mended (digits 7 0b1000110) 1)
  -- rows 10111, 01101: two leaders of weight 2, 00110 and 10100
  pub five_leaders :
      (matrix_answer 5 2 five ≡ done) × (of_weight 2 (tabulate (leader_of 5 five) 8) ≡ digits 5 0b00110 ∷ digits 5 0b10100 ∷ [])
  -- n = 4, rows 1100, 1010, 0110: number 4, row 2
  pub four_dependent : (matrix_answer 4 3 four ≡ Err (Dependent 2)) × (number_of (Dependent 2) ≡ 4) × (value_of (Dependent 2) ≡ 2)
  -- Golay message 110000000000 gives checks 100100110110
  pub golay_encoded : encode golay_rows (digits 12 0b110000000000) ≡ digits 24 0b100100110110_110000000000
  -- 100000110100 110000000001 mends 3 places to that codeword. Not computed, since the definition searches 2^24 words: it is a codeword
  -- at distance 3, and by demand 3's rules, which the decode ensures, the answer is the one codeword within 3 places
  pub golay_mended : golay_outcome (digits 24 0b100000110100_110000000001) ≡ Mended (digits 24 0b100100110110_110000000000) 3
  -- (72,64), checks in hexadecimal: data 1 has check 07; data of 64 ones has check 00
  pub split_encoded : (encode columns 1 ≡ 0x07) × (encode columns 0xFFFFFFFFFFFFFFFF ≡ 0x00)
  -- data 3, check 00 is far; data 0, check 2F is far; data 1, check 00 mends to 0
  pub split-decoded :
      (outcome_of (record { check = 0x00; «data» = 3 }) ≡ Far)
      × (outcome_of (record { check = 0x2F; «data» = 0 }) ≡ Far)
      × (outcome_of (record { check = 0x00; «data» = 1 }) ≡ Mended (record { check = 0x00; «data» = 0 }) 1)
