-- The first `half` entries are sums of i rows, and the rows after these are left.
use Rattle.std.proofs.Common.{◌≡◌, ℕ, ◌-◌, length, drop}
use Rattle.std.specs.Slice.Iter.{iter_rest}
use Rattle.sums.proofs.TableLaws.{Summed}
use Rattle.sums.proofs.tables.fill_sums.Given as goal

abbrev pub invariant-loop-half : goal.invariant-loop-half
invariant-loop-half l =
    (length l.table ≡ length l.initial.table) × ((i : ℕ) × (iter_rest l.left ≡ drop i l.rows) × Summed l.rows i l.half l.table)

abbrev pub decreases-loop-half : goal.decreases-loop-half
decreases-loop-half l = length l.initial.table - l.half
