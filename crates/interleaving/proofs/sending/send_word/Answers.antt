-- The bit of the list is the digit of the place sent.
use Rattle.std.proofs.Common.{◌∙◌, ◌/◌, ◌^◌, get_or}
use lib.Bits.{and_mask}
use Rattle.interleaving.proofs.SendLaws.{sending_below, sending_bit, sending_step}
use Rattle.interleaving.proofs.sending.send_word.Goals as goal

pub loop-j-preserved : goal.loop-j-preserved
loop-j-preserved c =
    let a = c.args in
    let j = c.loop-j.j in
    let h = c.requires.i_in_bounds.0 in
    sending_step a.words.now a.i j h (sending_below a.words.now a.i j h c.requires.i_in_bounds.1 c.loop-j-test.true)
    (and_mask (get_or a.words.now a.i 0 / 2 ^ j) 1 ∙ sending_bit a.words.now a.i j h) c.loop-j.invariant
