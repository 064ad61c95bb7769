-- How the weight counts of a code come from those of the sums of its check rows: place by place.
use Rattle.std.specs.Prelude.{◌≡◌, List, ℕ, zero, suc, ◌-◌, ◌*◌, ◌^◌, ◌<◌, get_or}
use Rattle.coding.specs.Lists.{tabulate}
use Rattle.coding.specs.Reduce.{reduced_rows}
use Rattle.coding.specs.Check.{checks}
use Rattle.coding.specs.Dual.{sum_below, overlaps}
use Rattle.words.specs.Limits.{weight_slots}
use Rattle.words.specs.Accepted.{Accepted}

-- the value before j, 0 before the first
abbrev pub earlier : (ℕ → ℕ) → ℕ → ℕ
earlier f zero = 0
earlier f (suc j) = f j

-- the overlaps with the words of the s largest weights, of n places and B i of weight i, in their last places but n + 1 - s ones
abbrev pub part_sum : ℕ → ℕ → (ℕ → ℕ) → ℕ → ℕ → ℕ
part_sum c n B s j = sum_below (λ r. B (n - r) * overlaps c r (s - 1 - r) j) s

-- the values for the weights 0 to 32
unfoldable pub slots : (ℕ → ℕ) → List ℕ
slots f = tabulate f weight_slots

-- no entry has more than 51 places
abbrev pub Small : List ℕ → Type 0
Small l = (j : ℕ) → get_or l j 0 < 2 ^ 51

-- these are the check rows of an accepted matrix of n places
pub record ChecksOf (n : ℕ) (hs : List ℕ) : Type 0 where
  pub k : ℕ
  pub rows : List ℕ
  pub accepted : Accepted n k rows
  pub are : hs ≡ checks n rows

-- reduced rows and check rows are those of one accepted matrix of n places
pub record CodeParts (n : ℕ) (rows reduced hs : List ℕ) : Type 0 where
  pub k : ℕ
  pub accepted : Accepted n k rows
  pub reduced_are : reduced ≡ reduced_rows n rows
  pub checks_are : hs ≡ checks n rows
