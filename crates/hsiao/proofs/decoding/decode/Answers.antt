-- The word and the count of the outcome.
use Rattle.std.proofs.Common.{arith}
use Rattle.hsiao.specs.Table.{columns}
use Rattle.hsiao.proofs.HsiaoTableLaws.{columns-odd, word-places, distance-four}
use Rattle.hsiao.proofs.HsiaoDecodeLaws.{decoded_by}
use Rattle.hsiao.proofs.decoding.decode.Goals as goal

pub returns : goal.returns
returns c =
    let w = c.args.w in
    rw (c.correction.ensures, c.outcome_of.ensures) (decoded_by 8 columns columns-odd distance-four w (word-places w (omega arith) (omega arith)))
