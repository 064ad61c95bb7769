-- The constants are lanes of P, so the lowest lane that reaches 16 is the first near row.
use Rattle.std.proofs.Common.{ap, ap₂, ◌∙◌, ℕ, ◌+◌, ◌-◌, ◌*◌, ◌/◌, arith}
use lib.Bits.{bit_and}
use lib.Count.{count_trailing_zeros}
use Rattle.coding.specs.Word.{weight}
use Rattle.golay.proofs.NearLaws.{one-lanes, row_lanes, high_lanes, near_is, overlaps-lt}
use Rattle.golay.proofs.nearby.near_row.Goals as goal

pub overflow_add-reached : goal.overflow_add-reached
overflow_add-reached c = omega (arith, c.overlaps.ensures, overlaps-lt c.args.s c.requires)

pub returns : goal.returns
returns c =
    let s = c.args.s in
    rw c.from-half.ensures
    (ap (λ (x : ℕ). count_trailing_zeros 64 (bit_and (c.overlaps.result + (0x5B5AD6B5AD6B5AD - weight s / 2 * 0x84210842108421)) x) / 5) high_lanes
    ∙ near_is s c.requires (c.overlaps.result + (0x5B5AD6B5AD6B5AD - weight s / 2 * 0x84210842108421))
    (ap₂ ◌+◌ c.overlaps.ensures (ap₂ ◌-◌ row_lanes (ap (λ (x : ℕ). weight s / 2 * x) one-lanes))))
