-- Slot i becomes the row sum of word i.
use Rattle.std.proofs.Common.{arith, take}
use Rattle.std.proofs.Math.Seq.{length-take-le}
use Rattle.coding.specs.Matrix.{encode}
use Rattle.coding.proofs.LoopLaws.{over-map_step}
use Rattle.sums.proofs.sums.row_sums.Goals as goal

pub loop-i-preserved : goal.loop-i-preserved
loop-i-preserved c =
    let O = c.loop-i.invariant in
    let m = c.min-m.result in
    let long = length-take-le m c.args.words.now (omega (arith, c.min-m.ensures)) in
    over-map_step (encode c.args.rows.now) (take m c.args.words.now) O _ c.loop-i-test.true (omega (arith, O.long, c.min-m.ensures, long))
    c.row_sum.ensures
