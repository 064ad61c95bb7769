-- The tests of the room in turn, then the build.
use Rattle.std.proofs.Common.{◌≡◌, true, length, ◌^◌, ◌≤◌, arith, le-leb}
use Rattle.coding.proofs.MachineLaws.{shl_one}
use Rattle.leaders.specs.LeadersBy.{leaders_fit}
use Rattle.leaders.proofs.LeaderPromiseLaws.{filled_by_lem}
use Rattle.leaders.proofs.leaders.fill_leaders.Goals as goal

pub returns : goal.returns
returns c =
    let a = c.args in
    let size = shl_one a.c 64 (omega (arith, c.if-c-gt-MAX_CHECKS.false)) in
    let room : 2 ^ a.c ≤ length a.list.now = rw size at c.if-list-size.false in
    let fits : leaders_fit a.n a.c (length a.list.now) ≡ true = simp (le-leb _ _ c.if-n-gt-WIDTH.false, le-leb _ _ c.if-c-gt-MAX_CHECKS.false, le-leb _ _ room) in
    rw size (filled_by_lem a.checks.now a.n a.c a.list.now fits _ _ c.build.ensures.list_after c.build.ensures.value)
