-- A walk over the sums of the check rows, their overlaps, and the MacWilliams identity.
use Rattle.std.proofs.Common.{◌≡◌, ap, ◌∙◌, List, ℕ, ◌-◌, ◌/◌, ◌≤◌, ◌^◌, length, get_or, take, arith}
use Rattle.coding.specs.Check.{checks}
use Rattle.words.specs.Limits.{max_rows}
use Rattle.walk.specs.Walked.{Walked}
use Rattle.walk.specs.declared.walk.Walk.{Walk}
use Rattle.walk.proofs.WalkedLaws.{walked_all}
use Rattle.weights.specs.Inner.Overlap.{slots, ChecksOf}
use Rattle.weights.proofs.DualCountLaws.{checks_few, walk_few, quotient_fits, quotients_are}
use Rattle.weights.proofs.dual.counts_by_checks.Goals as goal

few : {n : ℕ} {hs : List ℕ} → ChecksOf n hs → length hs ≤ 12
few C = rw C.are (checks_few _ C.k C.rows C.accepted)

-- the walk over the sums of the check rows
walk : (n : ℕ) (hs : List ℕ) (w : Walk) → ChecksOf n hs → Walked (take max_rows hs) (2 ^ length (take max_rows hs)) w → (rows : List ℕ)
    → hs ≡ checks n rows → Walked (checks n rows) (2 ^ length (checks n rows)) w
walk n hs w C found rows e =
    let W : Walked hs (2 ^ length hs) w = walked_all (omega (arith, few C)) found in
    rw e at W

pub overlap_counts-o-requires : goal.overlap_counts-o-requires
overlap_counts-o-requires c =
    let C = c.requires in
    let W = walk _ _ _ C c.walk_all-walk.ensures C.rows C.are in
    (C.accepted.range.places.1, walk_few _ C.k C.rows C.accepted c.walk_all-walk.result W)

pub overflow_cast-hs : goal.overflow_cast-hs
overflow_cast-hs c = record { fits = omega (arith, few c.requires) }

pub quotients-requires-clause-low : goal.quotients-requires-clause-low
quotients-requires-clause-low c = omega (arith, few c.requires)

pub quotients-requires-clause-fits : goal.quotients-requires-clause-fits
quotients-requires-clause-fits c =
    let C = c.requires in
    let W = walk _ _ _ C c.walk_all-walk.ensures C.rows C.are in
    rw C.are (quotient_fits _ C.k C.rows C.accepted c.walk_all-walk.result W c.overlap_counts-o.ensures.0 c.overlap_counts-o.ensures.1)

pub returns : goal.returns
returns c k rows A e =
    let even = c.overlap_counts-o.result.even in
    let odd = c.overlap_counts-o.result.odd in
    let W = walk _ _ _ c.requires c.walk_all-walk.ensures rows e in
    c.quotients.ensures ∙ ap (λ (l : List ℕ). slots (λ j. (get_or even j 0 - get_or odd j 0) / 2 ^ length l)) e
    ∙ quotients_are _ k rows A c.walk_all-walk.result W c.overlap_counts-o.ensures.0 c.overlap_counts-o.ensures.1
