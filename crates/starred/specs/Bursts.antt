-- 02, No. 5: three words of 01's (7,4) sent interleaved, what is decoded of received bits, and the causes of the three calls, over the
-- definitions that their contracts cite.
use Rattle.std.specs.Prelude.{◌≡◌, List, [], ◌∷◌, map, ℕ, get_or, take, Err}
use Rattle.coding.specs.Lists.{tabulate, zeros}
use Rattle.coding.specs.Word.{bit}
use Rattle.coding.specs.Matrix.{Codeword}
use Rattle.coding.specs.Interleaving.{interleaved, sorted_words, SentWithBurst, BurstRule}
use Rattle.answers.specs.declared.answer.Refusal.TheVariants.{RadiusTooLarge, WordOutside, ShortOutput, ShortWork, NoDepth, NoBits}
use Rattle.outcomes.specs.Outcome.{word_of, count_of}
use Rattle.outcomes.specs.declared.ending.Reading.TheVariants.{Within}
use Rattle.interleaving.specs.Causes.{interleave_answer, deinterleave_answer, interleaved_answer}
use Rattle.starred.specs.Matrices.{digits, seven}
use Rattle.answers.specs.Refusal.{done}

-- m bits, bit 0 leftmost
abbrev pub bit_list : ℕ → ℕ → List ℕ
bit_list m x = tabulate (bit (digits m x)) m

-- the words sent: 1011100, 1010001, 1111111
abbrev pub three : List ℕ
three = 0x1D ∷ 0x45 ∷ 0x7F ∷ []

-- the codewords and the counts within radius r of three words of the (7,4), received as these bits
abbrev pub words : ℕ → ℕ → List ℕ
words r x = map (word_of 7 seven (Within r)) (sorted_words 7 3 (bit_list 21 x))

abbrev pub counts : ℕ → ℕ → List ℕ
counts r x = map (count_of 7 seven (Within r)) (sorted_words 7 3 (bit_list 21 x))

pub record Bursts : Type 0 where
  pub sent : interleaved 7 three ≡ bit_list 21 0b111001111101101001011
  pub sorted : sorted_words 7 3 (bit_list 21 0b111001111101101001011) ≡ three
  -- bits 10, 11 and 12 changed: all come back
  pub burst : (words 1 0b111001111110001001011 ≡ three) × (counts 1 0b111001111110001001011 ≡ 1 ∷ 1 ∷ 1 ∷ [])
  -- what the burst rule asks of them: codewords, and a burst of 3 * 1 places from bit 10 on
  pub sent_with_burst : SentWithBurst (Codeword seven) 7 3 3 10 three (bit_list 21 0b111001111110001001011)
  -- and what it promises of them: the words sent, each with the count 1
  pub by_rule : (codewords counts : List ℕ) → BurstRule (Codeword seven) 7 3 1 (bit_list 21 0b111001111110001001011) codewords counts
      → (take 3 codewords ≡ three) × (tabulate (λ i. get_or counts i 0) 3 ≡ 1 ∷ 1 ∷ 1 ∷ [])
  -- bits 9 and 12 changed, two places of word 0: it is decoded as 1010001
  pub too_wide : (words 1 0b111001111001001001011 ≡ 0x45 ∷ 0x45 ∷ 0x7F ∷ []) × (counts 1 0b111001111001001001011 ≡ 1 ∷ 0 ∷ 0 ∷ [])
  -- bit 9 changed, radius 0: word 0 is far
  pub no_radius : counts 0 0b111001111001101001011 ≡ 255 ∷ 0 ∷ 0 ∷ []
  -- sending: no words; 17 words and 5 bytes; words 0 and 80, and 13 or 14 bytes
  pub sending : (interleave_answer 7 4 seven [] 0 ≡ Err NoDepth) × (interleave_answer 7 4 seven (zeros 17) 5 ≡ Err NoDepth)
      × (interleave_answer 7 4 seven (0 ∷ 0x80 ∷ []) 13 ≡ Err NoBits) × (interleave_answer 7 4 seven (0 ∷ 0x80 ∷ []) 14 ≡ Err (WordOutside 1))
  -- sorting back: 14 bytes, one of them 2, and a list of 1; no byte above 1; no depth
  pub sorting : (deinterleave_answer 7 4 seven 2 (2 ∷ zeros 13) 1 ≡ Err NoBits) × (deinterleave_answer 7 4 seven 2 (zeros 14) 1 ≡ Err ShortOutput)
      × (deinterleave_answer 7 4 seven 0 (zeros 14) 1 ≡ Err NoDepth)
  -- decoding: radius 2 and depth 17; radius 1, depth 2 and 15 bytes; lists of 2 and 1; a working list of 7; and one of 8
  pub decoding : (interleaved_answer 7 4 seven 2 17 (zeros 14) 2 2 8 ≡ Err RadiusTooLarge)
      × (interleaved_answer 7 4 seven 1 2 (zeros 15) 2 2 8 ≡ Err NoBits) × (interleaved_answer 7 4 seven 1 2 (zeros 14) 2 1 8 ≡ Err ShortOutput)
      × (interleaved_answer 7 4 seven 1 2 (zeros 14) 2 2 7 ≡ Err ShortWork) × (interleaved_answer 7 4 seven 1 2 (zeros 14) 2 2 8 ≡ done)
  -- the deepest: 16 words, 16 times 7 bytes and lists of 16, by the three calls
  pub deepest : (interleave_answer 7 4 seven (zeros 16) 112 ≡ done) × (deinterleave_answer 7 4 seven 16 (zeros 112) 16 ≡ done)
      × (interleaved_answer 7 4 seven 1 16 (zeros 112) 16 16 8 ≡ done)
  -- one word more, and lists for it
  pub too_deep : (interleave_answer 7 4 seven (zeros 17) 119 ≡ Err NoDepth) × (deinterleave_answer 7 4 seven 17 (zeros 119) 17 ≡ Err NoDepth)
      × (interleaved_answer 7 4 seven 1 17 (zeros 119) 17 17 8 ≡ Err NoDepth)
