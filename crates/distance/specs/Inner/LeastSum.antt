-- The search for the minimum distance, and for the smallest codeword of a weight, by rising number of rows.
use Rattle.std.specs.Prelude.{◌≡◌, ◌⊎◌, List, cond, ℕ, ◌-◌, ◌^◌, ◌≤◌, ◌<◌, eqb}
use Rattle.coding.specs.Word.{◌⊕◌, weight}
use Rattle.coding.specs.Matrix.{encode}
use Rattle.coding.specs.Reduced.{Echelon}
use Rattle.words.specs.Accepted.{Accepted}

-- r is the least of best and of the values of f at all sums of t of the first m rows, each with base added
pub record LeastSum (f : ℕ → ℕ) (rows : List ℕ) (m t base best r : ℕ) : Type 0 where
  pub upper : r ≤ best
  pub each : (u : ℕ) → u < 2 ^ m → weight u ≡ t → r ≤ f (encode rows u ⊕ base)
  pub one : (r ≡ best) ⊎ ((u : ℕ) × (u < 2 ^ m) × (weight u ≡ t) × (r ≡ f (encode rows u ⊕ base)))

-- the word where it weighs w, and 2^32 - 1 where it does not
abbrev pub of_weight : ℕ → ℕ → ℕ
of_weight w x = cond (eqb (weight x) w) x (2 ^ 32 - 1)

-- the rows of an accepted matrix in reduced row echelon form
pub record ReducedMatrix (rows : List ℕ) : Type 0 where
  pub n : ℕ
  pub k : ℕ
  pub accepted : Accepted n k rows
  pub pivots : List ℕ
  pub echelon : Echelon rows pivots
