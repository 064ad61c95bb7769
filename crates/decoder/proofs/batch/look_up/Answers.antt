-- The entry that is next is still a syndrome.
use Rattle.std.proofs.Common.{ap, ◌∙◌, List, ℕ, map, length, ◌<◌, get_or, arith}
use lib.ListN.{length-map}
use Rattle.coding.proofs.LoopLaws.{over_next, over-map_step}
use Rattle.decoder.proofs.batch.look_up.Goals as goal

pub loop-x-preserved : goal.loop-x-preserved
loop-x-preserved c =
    let list = c.args.list.now in
    let O = c.loop-x.invariant in
    let i = c.loop-x.x-index in
    let leader = λ (s : ℕ). get_or c.args.leaders.now s 0 in
    let more : i < length list = omega (arith, O.long, c.loop-x-test.true) in
    let next = ap (λ (x : List ℕ). get_or x i 0) O.list ∙ over_next (map leader list) list i (omega (arith, length-map list leader, more)) in
    over-map_step leader list O _ more more (ap leader next)
