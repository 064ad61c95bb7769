-- Each turn adds the next weight: the entries before are moved by one place, and nothing grows too large.
use Rattle.std.proofs.Common.{◌≡◌, ◌+◌, ◌-◌, ◌*◌, ◌≤◌, ℕ, ap, sym, subst, ◌∙◌, length, get_or, take, arith}
use Rattle.std.proofs.lemmas.List.{length_push, length-reverse, get_or-reverse}
use Rattle.std.proofs.lemmas.Grind.{get_or_default_zero}
use Rattle.std.proofs.lemmas.Iterator.Adapters.{YieldsList-from_rev_slice}
use Rattle.std.proofs.lemmas.Iterator.Consumers.{YieldsList-turn, YieldsList-end}
use lib.Seq.{length-take-le, get_or-take}
use Rattle.weights.specs.Inner.Overlap.{slots}
use Rattle.weights.proofs.OverlapSumLaws.{Running, running_start, running_next, running_end, even-small, odd-small, all_small, all-le, kept_small}
use Rattle.weights.proofs.dual.overlap_counts.Goals.{In-Some}
use Rattle.weights.proofs.dual.overlap_counts.Goals as goal

-- the counts are taken from that of the largest weight
turn : (c : In-Some) → (length c.loop-count.yielded ≤ c.args.n) × (c.in-Some.count.now ≡ get_or c.args.counts.now (c.args.n - length c.loop-count.yielded) 0)
turn c =
    let counts = c.args.counts.now in
    let s = length c.loop-count.yielded in
    let (more, is) = YieldsList-turn (YieldsList-from_rev_slice (take (c.args.n + 1) counts) (cc)) c.loop-count.yielded _ c.loop-count.yielded_by _ _ c.in-Some.count c.in-Some.is c.next.ensures.steps in
    let size : length (take (c.args.n + 1) counts) ≡ c.args.n + 1 = length-take-le (c.args.n + 1) counts (omega (arith, c.requires.0, c.told-counts)) in
    let within : s ≤ c.args.n = omega (arith, more, length-reverse (take (c.args.n + 1) counts), size) in
    let at : length (take (c.args.n + 1) counts) - 1 - s ≡ c.args.n - s = omega (arith, size) in (
      within,
      is ∙ get_or-reverse (take (c.args.n + 1) counts) s _ (omega (arith, within, size))
          ∙ ap (λ (i : ℕ). get_or (take (c.args.n + 1) counts) i c.in-Some.count.now) at
          ∙ get_or-take (c.args.n + 1) counts (c.args.n - s) _ (omega arith)
          ∙ get_or_default_zero counts (c.args.n - s) _ (omega (arith, within, c.requires.0, c.told-counts)),
    )

pub loop-count-init : goal.loop-count-init
loop-count-init c = running_start _ _

pub shifted-kept-requires : goal.shifted-kept-requires
shifted-kept-requires c =
    let (in-n, _) = turn (goal.at.shifted-kept-requires c).In-Some in
    let R = c.loop-count.invariant in
    (even-small _ _ c.requires.1 c.requires.0 R in-n, odd-small _ _ c.requires.1 c.requires.0 R in-n)

pub shifted-odd-requires : goal.shifted-odd-requires
shifted-odd-requires c =
    let (in-n, _) = turn (goal.at.shifted-odd-requires c).In-Some in
    let R = c.loop-count.invariant in
    (odd-small _ _ c.requires.1 c.requires.0 R in-n, even-small _ _ c.requires.1 c.requires.0 R in-n)

pub added-even-requires : goal.added-even-requires
added-even-requires c =
    let (in-n, is) = turn (goal.at.added-even-requires c).In-Some in
    let R = c.loop-count.invariant in (
      kept_small _ _ c.requires.1 c.requires.0 R in-n c.shifted-kept.ensures,
      omega (arith, c.from.ensures, is, c.requires.1 (c.args.n - length c.loop-count.yielded)),
      all-le _ _ c.requires.1 c.requires.0 R in-n,
    )

pub shifted-all-requires : goal.shifted-all-requires
shifted-all-requires c =
    let (in-n, _) = turn (goal.at.shifted-all-requires c).In-Some in
    let small = all_small _ _ c.requires.1 c.requires.0 c.loop-count.invariant in-n in
    (small, small)

pub loop-count-preserved : goal.loop-count-preserved
loop-count-preserved c =
    let (in-n, is) = turn (goal.at.loop-count-preserved c).In-Some in
    let more = length_push c.loop-count.yielded c.in-Some.count in
    let times = c.from.ensures ∙ is in
    let even = c.added-even.ensures ∙ ap (λ (b : ℕ). slots (λ j. get_or c.shifted-kept.result j 0 + b * get_or c.loop-count.all j 0)) times in
    subst (λ (s : ℕ). Running c.args.n (λ i. get_or c.args.counts.now i 0) c.added-even.result c.shifted-odd.result c.shifted-all.result s) (sym more)
    (running_next _ _ c.requires.1 c.requires.0 c.loop-count.invariant in-n c.shifted-kept.ensures c.shifted-odd.ensures even c.shifted-all.ensures)

pub returns : goal.returns
returns c =
    let counts = c.args.counts.now in
    let (_, all) = YieldsList-end (YieldsList-from_rev_slice (take (c.args.n + 1) counts) (cc)) c.loop-count.yielded _ c.loop-count.yielded_by _ _ c.in-None.is c.next.ensures.steps in
    running_end _ _ c.loop-count.invariant
    (omega (arith, all, length-reverse (take (c.args.n + 1) counts), length-take-le (c.args.n + 1) counts (omega (arith, c.requires.0, c.told-counts))))
