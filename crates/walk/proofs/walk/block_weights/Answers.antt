-- Slot j becomes the weight of word j.
use Rattle.std.proofs.Common.{arith, take}
use Rattle.std.proofs.Math.Seq.{length-take-le}
use Rattle.coding.specs.Word.{distance}
use Rattle.coding.proofs.LoopLaws.{over-map_step}
use Rattle.walk.proofs.walk.block_weights.Goals as goal

pub loop-j-preserved : goal.loop-j-preserved
loop-j-preserved c =
    let O = c.loop-j.invariant in
    let m = c.min-m.result in
    let long = length-take-le m c.args.block.now (omega (arith, c.min-m.ensures)) in
    over-map_step (λ b. distance b c.args.base) (take m c.args.block.now) O _ c.loop-j-test.true (omega (arith, O.long, c.min-m.ensures, long))
    c.distance.ensures
