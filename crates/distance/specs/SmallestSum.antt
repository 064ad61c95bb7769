-- The smallest word of a weight among the sums of few rows.
use Rattle.std.specs.Prelude.{◌≡◌, ◌≢◌, ◌⊎◌, List, ℕ, ◌-◌, ◌^◌, ◌≤◌, ◌<◌, length}
use Rattle.coding.specs.Word.{weight}
use Rattle.coding.specs.Matrix.{encode}

-- u selects at least one and at most w of the rows, and their sum weighs w
pub record FewWeigh (rows : List ℕ) (w u : ℕ) : Type 0 where
  pub message : u < 2 ^ length rows
  pub some : u ≢ 0
  pub few : weight u ≤ w
  pub weighs : weight (encode rows u) ≡ w

-- r is the smallest of these sums, and 2^32 - 1 where there is none
pub record SmallestSum (rows : List ℕ) (w r : ℕ) : Type 0 where
  pub upper : r ≤ 2 ^ 32 - 1
  pub each : (u : ℕ) → FewWeigh rows w u → r ≤ encode rows u
  pub one : (r ≡ 2 ^ 32 - 1) ⊎ ((u : ℕ) × FewWeigh rows w u × (r ≡ encode rows u))
