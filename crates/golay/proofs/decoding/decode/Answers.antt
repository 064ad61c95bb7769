-- The word and the count of the outcome.
use Rattle.std.proofs.Common.{ℕ, Ok, sym, ap, ◌∙◌}
use Rattle.answers.proofs.AnswerLaws.{ok_answered, err_answered, handed_on}
use Rattle.outcomes.specs.Outcome.{corrected}
use Rattle.outcomes.specs.declared.ending.Outcome.{Outcome}
use Rattle.golay.proofs.GolayDecodeLaws.{inside_lt, decode_is}
use Rattle.golay.proofs.decoding.decode.Goals as goal

pub outcome-requires : goal.outcome-requires
outcome-requires c = inside_lt c.args.received 24 (sym c.in_ok-inside.ensures)

pub returns-in_err-inside : goal.returns-in_err-inside
returns-in_err-inside c = decode_is _ _ (handed_on _ _ c.from_residual.ensures ∙ err_answered _ _ _ (sym c.in_err-inside.ensures))

pub returns : goal.returns
returns c =
    decode_is _ _
    (ap Ok (c.correction.ensures ∙ ap (λ (x : Outcome ℕ). corrected x c.args.received) c.outcome.ensures) ∙ ok_answered _ _ (sym c.in_ok-inside.ensures))
