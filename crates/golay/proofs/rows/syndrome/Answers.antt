-- The mask keeps the check places, and those of the message lie among them.
use Rattle.std.proofs.Common.{ap, ◌∙◌, ℕ, ◌/◌, ◌%◌, ◌^◌}
use native.Mathlib.Nat.{mod-eq_of_lt}
use lib.Bits.{and_mask, xor_mod}
use Rattle.coding.specs.Word.{◌⊕◌}
use Rattle.golay.proofs.PatternLaws.{sum_lt}
use Rattle.golay.proofs.rows.syndrome.Goals as goal

pub returns : goal.returns
returns c =
    let w = c.args.word in
    let s = c.check_sum.result in
    and_mask (w ⊕ s) 12 ∙ xor_mod w s 12
    ∙ ap (λ (x : ℕ). w % 2 ^ 12 ⊕ x) (mod-eq_of_lt (rw c.check_sum.ensures (sum_lt (w / 2 ^ 12))) ∙ c.check_sum.ensures)
