-- The tests in turn.
use Rattle.std.proofs.Common.{arith}
use Rattle.interleaving.proofs.BitLaws.{depth_zero, depth_large, length-other, length_right}
use Rattle.interleaving.proofs.causes.length_cause.Goals as goal

pub returns-then-depth-lt1 : goal.returns-then-depth-lt1
returns-then-depth-lt1 c = depth_zero _ _ _ c.if-depth-lt1.true

pub returns-then-depth-gt-MAX_DEPTH : goal.returns-then-depth-gt-MAX_DEPTH
returns-then-depth-gt-MAX_DEPTH c = depth_large _ _ _ c.if-depth-lt1.false (omega arith)

pub returns-then-length-depth : goal.returns-then-length-depth
returns-then-length-depth c = length-other _ _ _ c.if-depth-lt1.false (omega arith) c.if-length-depth.true

pub returns : goal.returns
returns c = length_right _ _ _ c.if-depth-lt1.false (omega arith) c.if-length-depth.false
