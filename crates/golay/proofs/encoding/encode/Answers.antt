-- The shift puts the message after the check places.
use Rattle.std.proofs.Common.{Ok, sym, ap, ap₂, ◌∙◌, ◌^◌, ◌<◌}
use lib.Dec.{lit≤}
use lib.Pow.{shl_exact}
use Rattle.coding.specs.Word.{◌⊕◌}
use Rattle.answers.proofs.AnswerLaws.{ok_answered, err_answered, handed_on}
use Rattle.golay.proofs.GolayDecodeLaws.{inside_lt, golay_encoded, encode_is}
use Rattle.golay.proofs.encoding.encode.Goals as goal

pub returns-in_err-inside : goal.returns-in_err-inside
returns-in_err-inside c = encode_is _ _ (handed_on _ _ c.from_residual.ensures ∙ err_answered _ _ _ (sym c.in_err-inside.ensures))

pub returns : goal.returns
returns c =
    let u = c.args.message in
    let l : u < 2 ^ 12 = inside_lt u 12 (sym c.in_ok-inside.ensures) in
    encode_is u _
    (ap Ok (ap₂ ◌⊕◌ (shl_exact 12 12 32 l (lit≤ tt)) c.check_sum.ensures ∙ golay_encoded u l) ∙ ok_answered _ _ (sym c.in_ok-inside.ensures))
