use Rattle.std.proofs.Common.{◌≡◌, reverse, ◌∙◌, rules}
use Rattle.std.proofs.iter.runs.Made.{chains}
use Rattle.std.specs.List.{fold}
use Rattle.parity.proofs.DigitLaws.{with_digit, places-fold}
use Rattle.parity.proofs.check.joined.Goals as goal

pub returns : goal.returns
returns g c = λ d acts small.
    let e : c.fold.result ≡ fold (with_digit d) 0 (reverse c.args.list.now) = search (rules, chains, acts) in
    e ∙ places-fold d small c.args.list.now c.requires.few
