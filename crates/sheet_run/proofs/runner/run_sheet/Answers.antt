-- The lists are cut behind what a batch may have, which changes no answer.
use Rattle.std.proofs.Common.{arith}
use Rattle.lines.proofs.AppendLaws.{put_as}
use Rattle.sheet_run.proofs.CutLaws.{cut_output}
use Rattle.sheet_run.specs.declared.runner.TheConstants.{ROWS_READ, WORDS_READ}
use Rattle.sheet_run.proofs.runner.run_sheet.Goals as goal

pub returns : goal.returns
returns c =
    put_as c.run_batch.ensures _
    (rw (c.load.ensures, c.load-2.ensures)
    (cut_output c.args.s.n c.args.s.k c.args.s.reading ROWS_READ WORDS_READ (omega arith) (omega arith) _ _))
