-- Each turn walks the messages of one block.
use Rattle.std.proofs.Common.{◌∙◌, refl, ap}
use Rattle.coding.specs.Lists.{tabulate}
use Rattle.coding.specs.Matrix.{encode}
use Rattle.walk.proofs.WalkLaws.{blocks_start, blocks_room, blocks_next, blocks_end}
use Rattle.walk.proofs.walk.walk_blocks.Goals as goal

pub loop-h-init : goal.loop-h-init
loop-h-init c = (
  refl,
  blocks_start (c.fill_sums.ensures ∙ ap (tabulate (encode c.args.front.now)) c.requires.block_len.0) c.requires.others_len_bound,
)

pub walk_block-walk-requires-clause-room : goal.walk_block-walk-requires-clause-room
walk_block-walk-requires-clause-room c = blocks_room c.loop-h.invariant.1 c.loop-h-test.true

pub loop-h-preserved : goal.loop-h-preserved
loop-h-preserved c = (
  c.walk_block-walk.ensures.1 ∙ c.loop-h.invariant.0,
  blocks_next c.loop-h.invariant.1 c.loop-h-test.true c.row_sum-base.ensures c.walk_block-walk.ensures.0,
)

pub returns : goal.returns
returns c = blocks_end c.loop-h.invariant.1 c.loop-h-test.false
