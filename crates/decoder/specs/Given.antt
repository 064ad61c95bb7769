-- What Decode is given as values of the program, in the words of `Decoded`.
use Rattle.std.specs.Prelude.{◌≡◌}
use Rattle.judging.specs.declared.causes.Batch as given
use Rattle.decoder.specs.declared.batch.Lent as lent
use Rattle.decoder.specs.Decoded.{Batch, Lent}

-- the matrix, the reading and the received words
abbrev pub batch_of : given.Batch → Batch
batch_of b = record { n = b.matrix.n; k = b.matrix.k; rows = b.matrix.rows.now; reading = b.reading; words = b.words.now }

-- what the lent lists hold
abbrev pub lists_of : lent.Lent → Lent
lists_of l = record { codewords = l.codewords.now; counts = l.counts.now; work = l.work.now }

-- a call lends each of the three lists on as it was lent
pub record SameLists (before after : lent.Lent) : Type 0 where
  pub codewords : after.codewords.ghost_name ≡ before.codewords.ghost_name
  pub counts : after.counts.ghost_name ≡ before.counts.ghost_name
  pub work : after.work.ghost_name ≡ before.work.ghost_name
