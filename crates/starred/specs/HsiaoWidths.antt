-- 02, No. 3: the codes of 16 and 32 data bits, over the definitions that the contracts cite; checks and data in hexadecimal.
use Rattle.std.specs.Prelude.{◌≡◌, cond, List, [], ◌∷◌, map, ℕ, suc, eqb, length, replicate, Err}
use Rattle.coding.specs.Lists.{tabulate}
use Rattle.coding.specs.Matrix.{encode}
use Rattle.answers.specs.Refusal.{number_of, value_of, done}
use Rattle.answers.specs.declared.answer.Refusal.TheVariants.{NoCodeword, NoWidth, BeyondWidth}
use Rattle.hsiao.specs.Table.{columns}
use Rattle.outcomes.specs.Outcome.{count_in}
use Rattle.hsiao.specs.Widths.Code.{checks_of, columns_of}
use Rattle.hsiao.specs.Widths.Causes.{data_answer, word_answer}
use Rattle.hsiao.specs.Widths.Decoded.{width_outcome}
use Rattle.hsiao.specs.Widths.MessageRead.{message_answer}
use Rattle.hsiao.specs.declared.word.Word.{Word}
use Rattle.outcomes.specs.declared.ending.Outcome.TheVariants.{Mended, Far}

abbrev pub word : ℕ → ℕ → Word
word check bits = record { check = check; «data» = bits }

-- the number of entries that are n
abbrev how_many : ℕ → List ℕ → ℕ
how_many n [] = 0
how_many n (x ∷ xs) = cond (eqb x n) (suc (how_many n xs)) (how_many n xs)

-- of the checks below c, beside data 0, so many end with this count
abbrev pub ended : ℕ → ℕ → ℕ → ℕ
ended width c count = how_many count (tabulate (λ check. count_in (width_outcome width (word check 0))) c)

pub record HsiaoWidths : Type 0 where
  -- (22,16), (39,32) and (72,64): so many check bits and columns; at width 64 they are those of the (72,64) code
  pub sizes :
      (map checks_of (16 ∷ 32 ∷ 64 ∷ []) ≡ 6 ∷ 7 ∷ 8 ∷ []) × (map (λ width. length (columns_of width)) (16 ∷ 32 ∷ 64 ∷ []) ≡ 16 ∷ 32 ∷ 64 ∷ [])
      × (columns_of 64 ≡ columns)
  -- width 16: data 1 has check 07, FFFF 0F, 8000 2C, BEEF 2C
  pub encoded_16 : map (encode (columns_of 16)) (0x0001 ∷ 0xFFFF ∷ 0x8000 ∷ 0xBEEF ∷ []) ≡ 0x07 ∷ 0x0F ∷ 0x2C ∷ 0x2C ∷ []
  -- width 32: data FFFFFFFF has check 03, 80000000 62, DEADBEEF 05
  pub encoded_32 : map (encode (columns_of 32)) (0xFFFFFFFF ∷ 0x80000000 ∷ 0xDEADBEEF ∷ []) ≡ 0x03 ∷ 0x62 ∷ 0x05 ∷ []
  -- 10000 at width 16 and 100000000 at width 32: number 15, and 0 beside it
  pub data-beyond :
      (data_answer 16 0x10000 ≡ Err BeyondWidth) × (data_answer 32 0x100000000 ≡ Err BeyondWidth)
      × (number_of BeyondWidth ≡ 15) × (value_of BeyondWidth ≡ 0)
  -- widths 0, 8, 17, 24, 33: number 14, and 0 beside it, whatever the data
  pub no_width :
      (map (λ width. data_answer width 0xFFFFFFFFFFFFFFFF) (0 ∷ 8 ∷ 17 ∷ 24 ∷ 33 ∷ []) ≡ replicate 5 (Err NoWidth))
      × (number_of NoWidth ≡ 14) × (value_of NoWidth ≡ 0)
  -- data 0 with each check: at width 16 one is clean, 22 are mended, 41 far; at width 32 1, 39 and 88
  pub each-check :
      (map (ended 16 64) (0 ∷ 1 ∷ 255 ∷ []) ≡ 1 ∷ 22 ∷ 41 ∷ []) × (map (ended 32 128) (0 ∷ 1 ∷ 255 ∷ []) ≡ 1 ∷ 39 ∷ 88 ∷ [])
  -- check 2C at width 16 mends data bit 15
  pub mended : width_outcome 16 (word 0x2C 0) ≡ Mended (word 0x2C 0x8000) 1
  -- 31 at width 16 and 64 at width 32, columns of the (72,64) code, are far; so are 1F and 3F at both
  pub far :
      (width_outcome 16 (word 0x31 0) ≡ Far) × (width_outcome 32 (word 0x64 0) ≡ Far) × (width_outcome 16 (word 0x1F 0) ≡ Far)
      × (width_outcome 16 (word 0x3F 0) ≡ Far) × (width_outcome 32 (word 0x1F 0) ≡ Far) × (width_outcome 32 (word 0x3F 0) ≡ Far)
  -- 40 at width 16 and 80 at width 32: number 15
  pub check_beyond : (word_answer 16 (word 0x40 0) done ≡ Err BeyondWidth) × (word_answer 32 (word 0x80 0) done ≡ Err BeyondWidth)
  -- read back at width 16: check 47, data 1 is 15; check 06 is 10; check 07 is read
  pub read :
      (message_answer 16 (word 0x47 1) ≡ Err BeyondWidth) × (message_answer 16 (word 0x06 1) ≡ Err (NoCodeword 0))
      × (message_answer 16 (word 0x07 1) ≡ done)
