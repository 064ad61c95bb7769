-- Of fewer than eight digits the first p are put.
use Rattle.std.proofs.Common.{arith, sym, ap, ◌∙◌, ◌/◌, ◌^◌}
use Rattle.std.proofs.lemmas.Nat.{and_mask}
use Rattle.coding.proofs.LoopLaws.{over_step, over-full}
use Rattle.lines.specs.Decimal.{digit}
use Rattle.lines.proofs.LineLaws.{length_digits, digit_of}
use Rattle.lines.proofs.print.fill_digits.Goals as goal

pub loop-p-preserved : goal.loop-p-preserved
loop-p-preserved c =
    over_step c.loop-p.invariant _ (omega (arith, length_digits)) (omega arith)
    (ap digit (and_mask (c.args.w / 2 ^ c.loop-p.p) 1) ∙ sym (digit_of _ c.args.w c.loop-p.p (omega arith)))

pub returns : goal.returns
returns c = over-full c.loop-p.invariant (length_digits _ c.args.w) (omega arith)
