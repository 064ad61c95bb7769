-- The outcome by the first columns of the table is that of the width.
use Rattle.std.proofs.Common.{Ok, sym, ap, ◌∙◌}
use Rattle.answers.proofs.AnswerLaws.{ok_answered}
use Rattle.outcomes.specs.Outcome.{corrected}
use Rattle.outcomes.specs.declared.ending.Outcome.{Outcome}
use Rattle.hsiao.specs.declared.word.Word.{Word}
use Rattle.hsiao.proofs.WidthAnswerLaws.{outcome_within, decode_is}
use Rattle.hsiao.proofs.widths.decoded.Goals as goal

pub returns : goal.returns
returns g c =
    let a = c.args in
    let d = sym c.in_ok-word_cause.ensures in
    let o = c.outcome_at.ensures ∙ outcome_within g.row.WIDTH a.received d c.syndrome-s.result c.syndrome-s.ensures.sum in
    decode_is g.row.WIDTH a.received _ (ap Ok (c.correction.ensures ∙ ap (λ (x : Outcome Word). corrected x a.received) o) ∙ ok_answered _ _ d)
