-- The lowest digit of the count of ones.
use Rattle.std.specs.Int.Bits.{bit_and}
use Rattle.std.specs.Int.Count.{ones}
use lib.Bits.{and_mask}
use Rattle.coding.specs.Word.{parity}
use Rattle.words.proofs.word.parity.Goals as goal

pub returns : goal.returns
unfolding parity
returns c = and_mask (ones (bit_and c.args.w c.args.h)) 1
