-- The joint is below 2 exactly when each byte is.
use Rattle.std.proofs.Common.{◌≡◌, ℕ, rules, bit_or}
use Rattle.std.specs.List.{fold}
use Rattle.interleaving.proofs.BitLaws.{bits_test}
use Rattle.interleaving.proofs.causes.only_bits.Goals as goal

pub returns : goal.returns
returns c =
    let e : c.fold.result ≡ fold (λ (a x : ℕ). bit_or a x) 0 c.args.bits.now = search rules in
    rw e (bits_test c.args.bits.now)
