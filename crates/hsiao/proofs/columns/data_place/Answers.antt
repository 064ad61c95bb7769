-- The number is that of a column among the first, of a later one or of none.
use Rattle.std.proofs.Common.{refl, inl, inr, arith}
use Rattle.hsiao.specs.Table.{columns}
use Rattle.hsiao.proofs.PlaceLaws.{place_none, place_some}
use Rattle.hsiao.proofs.columns.data_place.Goals as goal
use Rattle.hsiao.proofs.columns.data_place.Goals.{then-n-eq0-via-then-n-eq0, then-n-eq0-via-else-n-eq0+then-places-from}

pub numbered-n-requires : goal.numbered-n-requires
unfolding columns
numbered-n-requires c = refl

pub returns-then-n-eq0 : goal.returns-then-n-eq0
returns-then-n-eq0 c =
    elim c.then-n-eq0.branch [
      | then-n-eq0-via-then-n-eq0 w ↦ place_none columns c.args.places c.args.s _ c.numbered-n.ensures (inl w.if-n-eq0.true)
      | then-n-eq0-via-else-n-eq0+then-places-from w ↦ place_none columns c.args.places c.args.s _ c.numbered-n.ensures (inr (omega (arith, w.if-places-from.true, w.from.ensures)))
    ]

pub returns : goal.returns
returns c = place_some columns c.args.places c.args.s _ c.numbered-n.ensures c.if-n-eq0.false (omega (arith, c.if-places-from.false, c.from.ensures))
