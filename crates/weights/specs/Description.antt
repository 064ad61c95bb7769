-- 01, part 3 and Describe, with 02, No. 2: what the calls for the weights and for the whole description answer.
use Rattle.std.specs.Prelude.{◌≡◌, List, ℕ, ◌^◌, Result, IsOk, IfOk}
use Rattle.coding.specs.Lists.{padded, total}
use Rattle.coding.specs.Matrix.{SameCode}
use Rattle.coding.specs.Reduce.{reduced_rows}
use Rattle.coding.specs.Check.{checks}
use Rattle.coding.specs.Weight.{weight_counts, dmin, MinimumDistance, lightest_codeword, Lightest}
use Rattle.coding.specs.Dual.{MacWilliams}
use Rattle.words.specs.Limits.{max_rows, max_checks, weight_slots}
use Rattle.answers.specs.Refusal.{answered, answer_of, part}
use Rattle.answers.specs.declared.answer.Refusal.{Refusal}
use Rattle.words.specs.Widest.{EveryRow}
use Rattle.words.specs.Accepted.{matrix_answer}
use Rattle.linear.specs.ReducedRows.{ReducedRowsOf}
use Rattle.parity.specs.ParityChecks.{ParityChecksOf}
use Rattle.weights.specs.declared.weights.Weights.{Weights}
use Rattle.weights.specs.declared.description.Description.{Description}

-- the minimum distance, the counts of the definition (0 past n) and the lightest codeword of the definition
abbrev pub weights : ℕ → List ℕ → Weights
weights n rows = record { dmin = dmin rows; counts = padded weight_slots (weight_counts n rows); lightest = lightest_codeword n rows }

-- causes 1 to 4, at 32 places never 3; past them those weights; and for an accepted matrix the minimum distance is the least weight of a
-- nonzero codeword and the least distance of two codewords; the counts add to 2 ^ k, and with those of the dual code, whose rows are the check
-- rows, they satisfy the MacWilliams identity; and the lightest codeword is the smallest number among the nonzero codewords of that weight, and
-- the same for every matrix of the code
pub record WeightsOf (n k : ℕ) (rows : List ℕ) (r : Result Weights Refusal) : Type 0 where
  pub is : r ≡ answered (matrix_answer n k rows) (weights n rows)
  pub every_row : EveryRow n (answer_of r)
  pub distance : IsOk r → MinimumDistance n rows (dmin rows)
  pub sum : IsOk r → total (weight_counts n rows) ≡ 2 ^ k
  pub lightest : IfOk r (λ w. Lightest rows w.lightest)
  pub dual : IsOk r → MacWilliams n rows (checks n rows)
  pub everywhere : IfOk r (λ w. (others : List ℕ) → SameCode rows others → w.lightest ≡ lightest_codeword n others)

-- Describe: the reduced rows and the check rows as the linear algebra states them, and the weights
pub record DescriptionOf (n k : ℕ) (rows : List ℕ) (r : Result Description Refusal) : Type 0 where
  pub is : r ≡ answered (matrix_answer n k rows) (record {
    rows = padded max_rows (reduced_rows n rows);
    checks = padded max_checks (checks n rows);
    weights = weights n rows;
  })
  pub reduced : ReducedRowsOf n k rows (part (λ d. d.rows) r)
  pub checks : ParityChecksOf n k rows (part (λ d. d.checks) r)
  pub weights : WeightsOf n k rows (part (λ d. d.weights) r)
