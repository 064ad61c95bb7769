-- 01, part 3: what the call for the minimum distance alone answers.
use Rattle.std.specs.Prelude.{◌≡◌, List, ℕ, Result, IsOk}
use Rattle.coding.specs.Lists.{padded}
use Rattle.coding.specs.Check.{checks}
use Rattle.coding.specs.Weight.{dmin, MinimumDistance}
use Rattle.words.specs.Limits.{max_checks}
use Rattle.words.specs.Accepted.{matrix_answer}
use Rattle.answers.specs.Refusal.{answered, part}
use Rattle.answers.specs.declared.answer.Refusal.{Refusal}
use Rattle.parity.specs.ParityChecks.{ParityChecksOf}
use Rattle.distance.specs.declared.distance.Distance.{Distance}

-- causes 1 to 4; past them the check rows as the linear algebra states them, and the minimum distance, which is the least weight of a nonzero
-- codeword and the least distance of two codewords
pub record DistanceOf (n k : ℕ) (rows : List ℕ) (r : Result Distance Refusal) : Type 0 where
  pub is : r ≡ answered (matrix_answer n k rows) (record { checks = padded max_checks (checks n rows); dmin = dmin rows })
  pub checks : ParityChecksOf n k rows (part (λ d. d.checks) r)
  pub distance : IsOk r → MinimumDistance n rows (dmin rows)
