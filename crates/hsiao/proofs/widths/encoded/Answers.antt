-- Data are a word with no check bits, and the sum of the table's columns is that of the width's.
use Rattle.std.proofs.Common.{Ok, sym, ap, ◌∙◌}
use Rattle.answers.proofs.AnswerLaws.{ok_answered}
use Rattle.hsiao.proofs.WidthAnswerLaws.{data_is, sum_is, encode_is}
use Rattle.hsiao.proofs.widths.encoded.Goals as goal

pub returns : goal.returns
returns g c =
    let a = c.args in
    let d = sym (data_is g.row.WIDTH a.bits) ∙ sym c.in_ok-word_cause.ensures in
    encode_is g.row.WIDTH a.bits _ (ap Ok (c.column_sum.ensures ∙ sum_is g.row.WIDTH a.bits d) ∙ ok_answered _ _ d)
