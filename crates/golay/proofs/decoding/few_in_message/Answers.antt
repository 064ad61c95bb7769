-- The check places alone, or a near row, or neither.
use Rattle.std.proofs.Common.{ap, ap₂, ◌∙◌, ℕ, ◌+◌, ◌<◌, arith}
use Rattle.coding.specs.Word.{◌⊕◌}
use Rattle.coding.proofs.MachineLaws.{shl_one}
use Rattle.golay_code.proofs.GolayLaws.{check_words, check-word}
use Rattle.golay.proofs.PatternLaws.{check-pattern, near_hit, row_pattern, few_far}
use Rattle.golay.proofs.decoding.few_in_message.Goals as goal

pub returns-then-weight-le-RADIUS : goal.returns-then-weight-le-RADIUS
returns-then-weight-le-RADIUS c = check-pattern _ c.requires (omega (arith, c.weight.ensures, c.if-weight-le-RADIUS.true))

pub returns-in_err-row : goal.returns-in_err-row
returns-in_err-row c =
    rw c.from_residual.ensures
    (few_far _ _ (omega (arith, c.weight.ensures, c.if-weight-le-RADIUS.false)) c.near_row-i.ensures (omega (arith, c.in_err-row.ensures.lookup)))

pub returns : goal.returns
unfolding check_words
returns c =
    let s = c.args.s in
    let i = c.near_row-i.result in
    let found = c.in_ok-row.ensures.lookup in
    let less : i < 12 = omega (arith, found) in
    row_pattern s i _ c.requires less (near_hit s i c.near_row-i.ensures less)
    (ap₂ ◌⊕◌ (shl_one (12 + i) 32 (omega (arith, less))) (c.sum.ensures ∙ ap (λ (x : ℕ). s ⊕ x) (found.3.1 0 ∙ check-word i)))
