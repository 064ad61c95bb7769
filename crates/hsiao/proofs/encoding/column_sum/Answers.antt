-- Digit by digit the diagonals select what the columns do; then the bytes are added up.
use Rattle.std.proofs.Common.{ap, ◌∙◌}
use Rattle.hsiao.specs.Table.{columns}
use Rattle.hsiao.proofs.DiagonalLaws.{diagonals, byte_sum, diagonal-sum, turned-fold}
use Rattle.hsiao.proofs.encoding.column_sum.Goals as goal

pub returns : goal.returns
unfolding columns diagonals
returns c =
    let h = c.ranges.bits.fits in
    ap byte_sum (c.turned-s.ensures ∙ turned-fold diagonals c.args.bits h) ∙ diagonal-sum c.args.bits h
