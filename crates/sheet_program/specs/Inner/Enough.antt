-- How much of an input has to be read.
use Rattle.std.specs.Prelude.{◌≡◌, List, ℕ, take}
use Rattle.sheet_run.specs.Output.{output_of}

-- the first so many bytes decide the output, however long the input is
pub record Enough (size : ℕ) : Type 0 where
  pub decides : (s : List ℕ) → output_of (take size s) ≡ output_of s
