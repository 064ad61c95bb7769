-- 02, No. 7: which n and k pass cause 1, and numbers of 32 bits as rows, words and messages, over the definitions that the contracts cite.
use Rattle.std.specs.Prelude.{◌≡◌, true, false, List, [], ◌∷◌, ◌++◌, map, ℕ, ◌+◌, ◌*◌, ◌^◌, replicate, Err}
use Rattle.coding.specs.Lists.{tabulate}
use Rattle.coding.specs.Matrix.{encode}
use Rattle.words.specs.Limits.{in_range}
use Rattle.words.specs.Shape.{shape_answer}
use Rattle.words.specs.Lists.{list_answer}
use Rattle.answers.specs.declared.answer.Refusal.TheVariants.{RowCount, RowOutside, WordOutside}
use Rattle.answers.specs.Refusal.{done}

-- 1 + x^3 + x^5 + x^6 + x^8 + x^9 + x^10 times x^i, for each i below k: rows of the (31,21) BCH code
abbrev pub rows_of : ℕ → List ℕ
rows_of k = tabulate (λ i. 0x769 * 2 ^ i) k

-- (32,20): nineteen of them, and a row of 32 ones
abbrev pub longest : List ℕ
longest = rows_of 19 ++ 0xFFFFFFFF ∷ []

pub record LongestWords : Type 0 where
  -- (13,1), (28,16), (29,17), (31,19) and (32,20) pass
  pub passing : map (λ k. in_range (k + 12) k) (1 ∷ 16 ∷ 17 ∷ 19 ∷ 20 ∷ []) ≡ replicate 5 true
  -- (33,21) does not; nor do (16,16), (20,20), (21,21), and (14,1), (29,16), (32,19)
  pub longer : in_range 33 21 ≡ false
  pub no_checks : map (λ k. in_range k k) (16 ∷ 20 ∷ 21 ∷ []) ≡ replicate 3 false
  pub more_checks : map (λ k. in_range (k + 13) k) (1 ∷ 16 ∷ 19 ∷ []) ≡ replicate 3 false
  -- a row of 32 ones is one of 32 places, and 2^31 none of 31; 21 rows are not 20
  pub rows : (shape_answer 32 20 longest ≡ done) × (shape_answer 31 19 (rows_of 18 ++ 0x80000000 ∷ []) ≡ Err (RowOutside 18))
      × (shape_answer 32 20 (longest ++ 1 ∷ []) ≡ Err RowCount)
  -- message 2^19 has the codeword of 32 ones, which is a word; message 2^20 is none of 20 places
  pub words : (encode longest 0x80000 ≡ 0xFFFFFFFF) × (list_answer (0 ∷ 0xFFFFFFFF ∷ []) 32 2 ≡ done)
      × (list_answer (0xFFFFF ∷ 0x100000 ∷ []) 20 2 ≡ Err (WordOutside 1))
