-- The places of word i before j are sent.
use Rattle.std.proofs.Common.{◌+◌, ◌*◌, length}
use Rattle.interleaving.specs.Inner.Sent.{Sent}
use Rattle.interleaving.proofs.sending.send_word.Given as goal

abbrev pub invariant-loop-j : goal.invariant-loop-j
invariant-loop-j l = Sent l.words (length l.initial.bits) l.i (length l.words * l.j + l.i) l.bits
