-- The sums whose last row lies before p have been looked at; from call to call the number of rows falls.
use Rattle.std.proofs.Common.{◌≡◌, ℕ, ◌+◌, ◌*◌, min}
use Rattle.distance.specs.Inner.LeastSum.{LeastSum}
use Rattle.distance.proofs.search.+sums.Given as goal

abbrev pub decreases-least_sum : goal.decreases-least_sum
decreases-least_sum g l = 2 * l.t + 1

abbrev pub decreases-least_by_last : goal.decreases-least_by_last
decreases-least_by_last g l = 2 * l.t

abbrev pub invariant-least_by_last-loop-p : goal.invariant-least_by_last-loop-p
invariant-least_by_last-loop-p g l =
    (f : ℕ → ℕ) → ((b x y : ℕ) → goal.F-post g l.keep b x y → y ≡ min b (f x)) → LeastSum f l.rows l.p l.t l.base l.best l.least
