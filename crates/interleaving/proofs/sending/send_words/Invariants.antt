-- The first i words are sent.
use Rattle.std.proofs.Common.{length}
use Rattle.interleaving.specs.Inner.Sent.{Sent}
use Rattle.interleaving.proofs.sending.send_words.Given as goal

abbrev pub invariant-loop-i : goal.invariant-loop-i
invariant-loop-i l = Sent l.words (length l.initial.bits) l.i l.i l.bits
