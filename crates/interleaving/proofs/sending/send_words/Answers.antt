-- Every word is sent.
use Rattle.interleaving.proofs.SendLaws.{sent_end}
use Rattle.interleaving.proofs.sending.send_words.Goals as goal

pub returns : goal.returns
returns c = sent_end _ _ _ _ c.requires.0 c.loop-i-test.false c.loop-i.invariant
