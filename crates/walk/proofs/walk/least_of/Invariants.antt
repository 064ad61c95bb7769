-- No weight from 1 to j - 1 has been counted.
use Rattle.std.proofs.Common.{◌≡◌, ℕ, suc}
use Rattle.coding.proofs.LoopLaws.{Searched}
use Rattle.walk.proofs.BlockLaws.{counted}
use Rattle.walk.proofs.walk.least_of.Given as goal

abbrev pub invariant-loop-j : goal.invariant-loop-j
invariant-loop-j l = (i : ℕ) × (l.j ≡ suc i) × Searched (counted l.counts) 32 i
