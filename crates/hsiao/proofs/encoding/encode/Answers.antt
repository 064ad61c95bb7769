-- With the sum of its columns the data is a codeword.
use Rattle.std.proofs.Common.{◌^◌, ◌<◌, length}
use Rattle.hsiao.specs.Table.{columns}
use Rattle.hsiao.proofs.HsiaoTableLaws.{columns-odd, columns-length, table_is}
use Rattle.hsiao.proofs.HsiaoDecodeLaws.{encoded_by}
use Rattle.hsiao.proofs.encoding.encode.Goals as goal

pub returns : goal.returns
returns c =
    let h : c.args.bits < 2 ^ length columns = rw columns-length c.ranges.bits.fits in
    record { by_columns = encoded_by 8 columns columns-odd.inside h c.column_sum.ensures; table = table_is }
