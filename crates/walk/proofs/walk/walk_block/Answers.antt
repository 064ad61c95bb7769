-- The block is tallied, and where it has a word of the least weight the smallest is kept.
use Rattle.std.proofs.Common.{◌≡◌, sym, ◌∙◌, List, ℕ, ◌<◌, ◌^◌, min, map, length, get_or, arith, Fits, w32}
use Rattle.coding.specs.Word.{distance}
use Rattle.words.proofs.ResultLaws.{all_slots}
use Rattle.walk.proofs.BlockLaws.{Weighed, weights_small, weights_long, some_least_is, no_least, walk_kept, walk_smallest}
use Rattle.walk.proofs.walk.walk_block.Goals.{After-block_weights, After-least_of}
use Rattle.walk.proofs.walk.walk_block.Goals as goal

-- the block's entries are machine words
words : (block : List ℕ) → ((i : ℕ) → Fits w32 (get_or block i 0)) → (i : ℕ) → i < length block → get_or block i 0 < 2 ^ 32
words block f i h = (f i).fits

-- each weight of the block
weights : (c : After-block_weights) → c.block_weights.new.weights ≡ map (λ b. distance b c.args.base) c.args.block.now
weights c = c.block_weights.ensures ∙ all_slots (λ b. distance b c.args.base) c.args.block.now c.args.weights.now c.requires.weights_len

-- there are as many as the block has words
long : (c : After-block_weights) → length c.block_weights.new.weights ≡ length c.args.block.now
long c = weights_long c.args.block.now c.args.base (weights c)

-- what the walk over the block has found
walked : (c : After-least_of) → Weighed c.args.block.now c.args.base c.args.walk c.block_weights.new.weights c.tally.new.counts
walked c = record {
  weights = c.block_weights.ensures ∙ all_slots (λ b. distance b c.args.base) c.args.block.now c.args.weights.now c.requires.weights_len;
  tallied = c.tally.ensures;
}

pub tally-requires-clause-light : goal.tally-requires-clause-light
tally-requires-clause-light c =
    let w = weights (goal.at.tally-requires-clause-light c).After-block_weights in
    rw w (weights_small c.args.block.now c.args.base (words c.args.block.now c.type_inv.block) c.ranges.base.fits)

pub returns-in-Some : goal.returns-in-Some
returns-in-Some c =
    let size = long (goal.at.returns-in-Some c).After-block_weights in
    let m : min (length c.args.block.now) (length c.block_weights.new.weights) ≡ length c.args.block.now = omega (arith, size) in
    let (is, few) = some_least_is c.tally.new.counts c.in-Some.weight (sym c.in-Some.is ∙ c.least_of.ensures) in
    let grew = c.if-before-weight.true in
    let S = rw m at c.smallest_of-word.ensures in
    let K = c.kept.ensures in (
      walk_smallest (walked (goal.at.returns-in-Some c).After-least_of) (rw is at few) (words c.args.block.now c.type_inv.block) c.ranges.base.fits
          (rw is at grew) (rw is at S) (rw is at K),
      size ∙ sym c.requires.weights_len,
    )

pub returns-in_default : goal.returns-in_default
returns-in_default c =
    let (is, few) = some_least_is c.tally.new.counts c.in-Some.weight (sym c.in-Some.is ∙ c.least_of.ensures) in (
      walk_kept (walked (goal.at.returns-in_default c).After-least_of) (λ l. rw is at c.if-before-weight.false),
      long (goal.at.returns-in_default c).After-block_weights ∙ sym c.requires.weights_len,
    )

pub returns-in_default-2 : goal.returns-in_default-2
returns-in_default-2 c = (
  walk_kept (walked (goal.at.returns-in_default-2 c).After-least_of) (λ l. absurd (omega (arith, l, no_least c.tally.new.counts (sym c.in_default.is ∙ c.least_of.ensures)))),
  long (goal.at.returns-in_default-2 c).After-block_weights ∙ sym c.requires.weights_len,
)
