-- The number and the value of what decode answers, and its parts.
use Rattle.telling.proofs.ToldLaws.{told_value}
use Rattle.hsiao.specs.Widths.Decoded.{Decoded}
use Rattle.relay_fixed.proofs.width_words.relay_hsiao_width_decode.Goals as goal

pub returns : goal.returns
returns c =
    let a = c.args in
    let told = c.tell-number.ensures in
    told_value (Decoded a.width (record { check = a.check; «data» = a.bits })) _ _ c.decode.ensures.is c.decode.ensures told.number told.value told.given
