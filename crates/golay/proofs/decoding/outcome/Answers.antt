-- The steps end the word as the definition does.
use Rattle.std.proofs.Common.{sym, ap₂, ◌∙◌, arith}
use Rattle.outcomes.specs.declared.ending.Outcome.TheVariants.{Mended}
use Rattle.golay.proofs.PatternLaws.{syndrome-lt, check-pattern}
use Rattle.golay.proofs.GolayDecodeLaws.{clean_is, far_is, mended_is}
use Rattle.golay.proofs.decoding.outcome.Goals as goal

pub returns-then-s-eq0 : goal.returns-then-s-eq0
returns-then-s-eq0 c = clean_is _ c.requires (sym c.syndrome-s.ensures ∙ c.if-s-eq0.true)

pub returns-then-d-le-RADIUS : goal.returns-then-d-le-RADIUS
returns-then-d-le-RADIUS c =
    ap₂ Mended c.sum.ensures c.weight-d.ensures
    ∙ mended_is _ c.requires _ _ c.syndrome-s.ensures
    (check-pattern _ (rw c.syndrome-s.ensures (syndrome-lt c.args.received)) (omega (arith, c.weight-d.ensures, c.if-d-le-RADIUS.true)))
    c.if-s-eq0.false

pub error_pattern-requires : goal.error_pattern-requires
error_pattern-requires c = rw c.syndrome-s.ensures (syndrome-lt c.args.received)

pub returns-in-None : goal.returns-in-None
returns-in-None c = far_is _ c.requires (rw c.syndrome-s.ensures at c.in-None.ensures)

pub returns-in-Some : goal.returns-in-Some
returns-in-Some c =
    ap₂ Mended c.sum-in-Some.ensures c.weight.ensures
    ∙ mended_is _ c.requires _ _ c.syndrome-s.ensures c.in-Some.ensures c.if-s-eq0.false
