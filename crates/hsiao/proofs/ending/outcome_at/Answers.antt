-- A single bit is mended at its check place, a column at its data place.
use Rattle.std.proofs.Common.{ap, ◌∙◌, ℕ, ◌<◌, length, take, arith}
use Rattle.std.proofs.lemmas.List.{length-take}
use Rattle.coding.specs.Word.{◌⊕◌}
use Rattle.coding.proofs.MachineLaws.{shl_one}
use Rattle.hsiao.specs.Table.{columns}
use Rattle.outcomes.specs.declared.ending.Outcome.TheVariants.{Mended}
use Rattle.hsiao.proofs.HsiaoTableLaws.{columns-length}
use Rattle.hsiao.proofs.SingleErrorLaws.{outcome_check, outcome_data}
use Rattle.hsiao.proofs.ending.outcome_at.Goals as goal

place-lt : (places i : ℕ) → i < length (take places columns) → i < 64
place-lt places i h = omega (arith, h, length-take places columns, columns-length)

pub returns-then-s-eq0-2 : goal.returns-then-s-eq0-2
returns-then-s-eq0-2 c = outcome_check _ (omega arith) c.if-s-eq0.false (take c.args.places columns) _ c.if-s-eq0-2.true

pub overflow_shl-mended : goal.overflow_shl-mended
overflow_shl-mended c =
    place-lt c.args.places _
    (outcome_data c.args.s (omega arith) c.if-s-eq0.false (take c.args.places columns) c.args.w c.if-s-eq0-2.false c.in-Some.i c.in-Some.ensures).0

pub returns : goal.returns
returns c =
    let w = c.args.w in
    let (l, e) = outcome_data c.args.s (omega arith) c.if-s-eq0.false (take c.args.places columns) w c.if-s-eq0-2.false c.in-Some.i c.in-Some.ensures in
    ap (λ (x : ℕ). Mended (record { check = w.check; «data» = w.«data» ⊕ x }) 1) (shl_one c.in-Some.i 64 (place-lt c.args.places _ l)) ∙ e
