-- The joined parities, in 01's words.
use Rattle.std.proofs.Common.{rules}
use Rattle.coding.specs.Word.{parity}
use Rattle.coding.proofs.WeightLaws.{parity-lt}
use Rattle.parity.proofs.SyndromeLaws.{syndrome_of_lem}
use Rattle.parity.proofs.check.syndrome.Goals as goal

pub returns : goal.returns
returns c =
    let a = c.args in
    syndrome_of_lem a.checks.now a.w c.joined.result (c.joined.ensures (parity a.w) (λ x y p. search rules) (parity-lt a.w))
