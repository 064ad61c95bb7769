-- The syndrome tells the codewords, and the shift leaves the message places.
use Rattle.std.proofs.Common.{sym, ◌∙◌}
use Rattle.answers.proofs.AnswerLaws.{err_answered, handed_on}
use Rattle.golay.proofs.GolayDecodeLaws.{read_is, read_outside, read_refused, read_done}
use Rattle.golay.proofs.read_back.message.Goals as goal

pub returns-in_err-inside : goal.returns-in_err-inside
returns-in_err-inside c =
    read_is _ _ (handed_on _ _ c.from_residual.ensures ∙ err_answered _ _ _ (sym (read_outside c.args.word _ c.in_err-inside.ensures)))

pub returns-then-syndrome-ne0 : goal.returns-then-syndrome-ne0
returns-then-syndrome-ne0 c = read_is _ _ (read_refused _ c.in_ok-inside.ensures (λ z. c.if-syndrome-ne0.true (c.syndrome.ensures ∙ z)))

pub returns : goal.returns
returns c = read_is _ _ (read_done _ c.in_ok-inside.ensures (sym c.syndrome.ensures ∙ c.if-syndrome-ne0.false))
