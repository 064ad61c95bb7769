-- 01, part 3: weight counts and the minimum distance; 02, No. 2: the lightest codeword.
use Rattle.std.specs.Prelude.{◌≡◌, ◌≢◌, List, Bool, cond, not, ◌&&◌, ℕ, zero, suc, ◌+◌, ◌-◌, ◌^◌, ◌≤◌, min, eqb, length}
use Rattle.coding.specs.Lists.{tabulate}
use Rattle.coding.specs.Word.{weight, distance}
use Rattle.coding.specs.Matrix.{encode, Codeword, is_codeword}
use Rattle.coding.specs.Lightest.{lightest_below, or_else}

-- how many numbers below m pass the test
abbrev pub count : (ℕ → Bool) → ℕ → ℕ
count p zero = 0
count p (suc m) = cond (p m) 1 0 + count p m

-- how many words of n places are codewords of weight j
unfoldable pub weight_count : ℕ → List ℕ → ℕ → ℕ
weight_count n rows j = count (λ w. is_codeword rows w && eqb (weight w) j) (2 ^ n)

-- the counts of the weights 0 to n
abbrev pub weight_counts : ℕ → List ℕ → List ℕ
weight_counts n rows = tabulate (weight_count n rows) (suc n)

-- the least of f 0 to f m
abbrev pub low : (ℕ → ℕ) → ℕ → ℕ
low f zero = f zero
low f (suc m) = min (low f m) (f (suc m))

-- the minimum distance: the least weight of the codeword of a message that is not 0
unfoldable pub dmin : List ℕ → ℕ
dmin rows = low (λ v. weight (encode rows (suc v))) (2 ^ length rows - 2)

-- d is the least weight of a nonzero codeword, and so the least distance of two different codewords
pub record MinimumDistance (n : ℕ) (rows : List ℕ) (d : ℕ) : Type 0 where
  pub attained : (w : ℕ) × Codeword rows w × (w ≢ 0) × (weight w ≡ d)
  pub least : (w : ℕ) → Codeword rows w → w ≢ 0 → d ≤ weight w
  pub attained_apart : (a : ℕ) × (b : ℕ) × Codeword rows a × Codeword rows b × (a ≢ b) × (distance a b ≡ d)
  pub apart : (a b : ℕ) → Codeword rows a → Codeword rows b → a ≢ b → d ≤ distance a b
  pub bounds : (1 ≤ d) × (d ≤ n)

-- the codewords that are not 0
abbrev pub nonzero_codeword : List ℕ → ℕ → Bool
nonzero_codeword rows w = is_codeword rows w && not (eqb w 0)

-- the lightest codeword: of those of n places that are not 0 the lightest, of several the smallest; `lightest-codeword` says that it is
-- the one (0 where there is none)
unfoldable pub lightest_codeword : ℕ → List ℕ → ℕ
lightest_codeword n rows = or_else 0 (lightest_below (nonzero_codeword rows) (2 ^ n))

-- w is the smallest number among the nonzero codewords of weight dmin
pub record Lightest (rows : List ℕ) (w : ℕ) : Type 0 where
  pub codeword : Codeword rows w
  pub nonzero : w ≢ 0
  pub weighs : weight w ≡ dmin rows
  pub smallest : (v : ℕ) → Codeword rows v → v ≢ 0 → weight v ≡ dmin rows → w ≤ v
