-- The dual code and the MacWilliams identity: the weight counts of a code from those of its dual.
use Rattle.std.specs.Prelude.{◌≡◌, List, ◌&&◌, ℕ, zero, suc, ◌+◌, ◌-◌, ◌*◌, ◌^◌, ◌<◌, eqb, length}
use Rattle.coding.specs.Word.{weight, parity}
use Rattle.coding.specs.Matrix.{encode, Codeword, Inside, Independent}
use Rattle.coding.specs.Weight.{count, weight_count}

-- f 0 to f (m - 1) added up
abbrev pub sum_below : (ℕ → ℕ) → ℕ → ℕ
sum_below f zero = 0
sum_below f (suc m) = f m + sum_below f m

-- how many of the sums of these rows have weight i
unfoldable pub sums_of_weight : List ℕ → ℕ → ℕ
sums_of_weight rows i = count (λ v. eqb (weight (encode rows v)) i) (2 ^ length rows)

-- of the words of n places of weight j, those whose parity with y is c: for 0 they share an even number of places with y, for 1 an odd one
unfoldable pub sharing : ℕ → ℕ → ℕ → ℕ → ℕ
sharing c n j y = count (λ x. eqb (weight x) j && eqb (parity x y) c) (2 ^ n)

-- the same by Pascal's rule, for a word with z zeros and i ones: a place where the word has a 1 turns the parity of those that have it too
abbrev pub overlaps : ℕ → ℕ → ℕ → ℕ → ℕ
overlaps c zero zero zero = 1 - c
overlaps c zero zero (suc j) = 0
overlaps c (suc z) zero zero = overlaps c z zero zero
overlaps c (suc z) zero (suc j) = overlaps c z zero (suc j) + overlaps c z zero j
overlaps c z (suc i) zero = overlaps c z i zero
overlaps c z (suc i) (suc j) = overlaps c z i (suc j) + overlaps (1 - c) z i j

-- those overlaps with all sums of the rows, n places each, counted by weight
abbrev pub overlap_sum : ℕ → ℕ → List ℕ → ℕ → ℕ
overlap_sum c n rows j = sum_below (λ i. sums_of_weight rows i * overlaps c (n - i) i j) (suc n)

-- these rows generate the dual code: its words have parity 0 with every codeword, and it has as many rows as the code has places less rows
pub record DualRows (n : ℕ) (rows duals : List ℕ) : Type 0 where
  pub inside : Inside n duals
  pub independent : Independent duals
  pub orthogonal : (x y : ℕ) → Codeword rows x → Codeword duals y → parity x y ≡ 0
  pub dimension : length duals + length rows ≡ n

-- the MacWilliams identity, with A_j codewords of weight j, B_i words of weight i in the dual, and for a word of weight i the numbers of words
-- of weight j that share an even number of places with it, and an odd one, whose difference is the Krawtchouk number K_j(i):
-- 2 ^ (n - k) * A_j = the sum of B_i * K_j(i), over natural numbers
pub record MacWilliams (n : ℕ) (rows duals : List ℕ) : Type 0 where
  pub dual : DualRows n rows duals
  pub coefficients : (c y j : ℕ) → c < 2 → y < 2 ^ n → sharing c n j y ≡ overlaps c (n - weight y) (weight y) j
  pub identity : (j : ℕ) → 2 ^ length duals * weight_count n rows j + sum_below (λ i. weight_count n duals i * overlaps 1 (n - i) i j) (suc n)
      ≡ sum_below (λ i. weight_count n duals i * overlaps 0 (n - i) i j) (suc n)
