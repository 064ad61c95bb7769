-- All 64 columns, and the syndrome of the word.
use Rattle.std.proofs.Common.{ap₂, ◌∙◌, ℕ, List, le_of_eq}
use lib.Seq.{take_all}
use Rattle.hsiao.specs.Table.{columns}
use Rattle.hsiao.specs.Outcome.{outcome_at}
use Rattle.hsiao.proofs.HsiaoTableLaws.{columns-length}
use Rattle.hsiao.proofs.ending.outcome_of.Goals as goal

pub returns : goal.returns
returns c =
    c.outcome_at.ensures
    ∙ ap₂ (λ (l : List ℕ) (x : ℕ). outcome_at 8 l c.args.w x) (take_all 64 columns (le_of_eq columns-length)) c.syndrome-s.ensures.sum
