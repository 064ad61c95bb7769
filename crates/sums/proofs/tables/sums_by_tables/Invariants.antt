-- After so many groups the sums are those by the rows of these.
use Rattle.std.specs.Slice.Iter.{chunks_rest, chunks_size}
use Rattle.std.specs.Iterator.Adapters.{enumerate_source, enumerate_count}
use Rattle.sums.proofs.TableLaws.{Grouped}
use Rattle.sums.proofs.tables.sums_by_tables.Given as goal

abbrev pub invariant-loop-g : goal.invariant-loop-g
invariant-loop-g l =
    let groups = enumerate_source l.g-iterator in
    Grouped l.rows l.words (enumerate_count l.g-iterator) (chunks_size groups) (chunks_rest groups) l.table l.sums
