-- `decoder::batch::look_up`: the entries so far are leaders.
use Rattle.std.proofs.Common.{map, get_or}
use Rattle.coding.proofs.LoopLaws.{Over}
use Rattle.decoder.proofs.batch.look_up.Given as goal

abbrev pub invariant-loop-x : goal.invariant-loop-x
invariant-loop-x l = Over (map (λ s. get_or l.leaders s 0) l.initial.list) l.initial.list l.x-index l.list
