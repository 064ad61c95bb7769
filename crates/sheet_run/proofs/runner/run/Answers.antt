-- The sheet that was read, or its refusal.
use Rattle.std.proofs.Common.{arith, sym, ap₂, ◌∙◌}
use Rattle.lines.specs.Line.{refused_line}
use Rattle.lines.proofs.AppendLaws.{put_as}
use Rattle.sheet_run.proofs.RunLaws.{ran_put}
use Rattle.sheet_run.proofs.runner.run.Goals as goal

pub run_sheet-requires : goal.run_sheet-requires
run_sheet-requires c = (
  (c.read.ensures.rows c.in-Ok.s c.in-Ok.is).inside,
  (c.read.ensures.words c.in-Ok.s c.in-Ok.is).inside,
)

pub returns-in-Ok-clause-ran : goal.returns-in-Ok-clause-ran
returns-in-Ok-clause-ran c =
    ran_put _ _ (λ i. (c.type_inv.sheet i).fits) (omega arith) (sym c.in-Ok.is ∙ c.read.ensures.answer) c.run_sheet.ensures

pub returns-in-Err-clause-ran : goal.returns-in-Err-clause-ran
returns-in-Err-clause-ran c =
    ran_put _ _ (λ i. (c.type_inv.sheet i).fits) (omega arith) (sym c.in-Err.is ∙ c.read.ensures.answer)
    (put_as c.put_refusal.ensures _ (ap₂ refused_line c.number.ensures c.value.ensures))
