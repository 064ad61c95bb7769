-- The first j slots are the weights of the first j words.
use Rattle.std.proofs.Common.{map, take}
use Rattle.coding.specs.Word.{distance}
use Rattle.coding.proofs.LoopLaws.{Over}
use Rattle.walk.proofs.walk.block_weights.Given as goal

abbrev pub invariant-loop-j : goal.invariant-loop-j
invariant-loop-j l = Over (map (λ b. distance b l.base) (take l.m l.block)) l.initial.weights l.j l.weights
