-- After h blocks the messages below h times the block have been walked.
use Rattle.std.proofs.Common.{◌≡◌, length}
use Rattle.walk.proofs.WalkLaws.{Blocks}
use Rattle.walk.proofs.walk.walk_blocks.Given as goal

abbrev pub invariant-loop-h : goal.invariant-loop-h
invariant-loop-h l = (length l.weights ≡ length l.initial.weights) × Blocks l.front l.others l.block l.end l.walk l.h
