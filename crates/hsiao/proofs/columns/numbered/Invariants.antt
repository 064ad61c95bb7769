-- n is the number of the column s among the first i, 0 where it is not there.
use Rattle.std.proofs.Common.{◌≡◌, ℕ, Bool, eqb, get_or}
use Rattle.hsiao.specs.Table.{columns}
use Rattle.hsiao.proofs.PlaceLaws.{number_below}
use Rattle.hsiao.proofs.columns.numbered.Given as goal

-- the test of column j
abbrev pub hit : ℕ → ℕ → Bool
hit s j = eqb (get_or columns j 0) s

abbrev pub invariant-loop-i : goal.invariant-loop-i
invariant-loop-i l = l.n ≡ number_below (hit l.s) l.i
