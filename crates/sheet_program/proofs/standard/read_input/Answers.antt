-- The buffer has room for the byte past the limit.
use Rattle.std.proofs.Common.{length}
use Rattle.sheet_program.proofs.InputLaws.{enough}
use Rattle.sheet_program.proofs.standard.read_input.Goals as goal

pub returns-clause-enough : goal.returns-clause-enough
returns-clause-enough g c = enough (length c.args.bytes.now) c.requires
