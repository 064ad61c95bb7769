-- The value of the table of lightest codewords: by computation, and that of G from its rows.
use mathlib.Core.Path.{◌≡◌, refl, sym, ap, ◌∙◌}
use mathlib.Core.Logic.{◌≢◌}
use Prim.Native.Nat.{ℕ, zero, suc, ◌^◌, ◌≤◌, ◌<◌}
use native.Mathlib.Omega.{arith}
use lib.Dec.{lit<}
use lib.Count.{ones}
use Rattle.coding.specs.Word.{weight}
use Rattle.coding.specs.Matrix.{encode, message_of}
use Rattle.coding.specs.Weight.{lightest_codeword, Lightest}
use Rattle.coding.proofs.MatrixLaws.{encode-zero}
use Rattle.coding.proofs.SystematicLaws.{systematic-codeword}
use Rattle.coding.proofs.LightestCodewordLaws.{lightest_only}
use Rattle.golay_code.specs.Golay.{golay_checks, golay_rows}
use Rattle.golay_code.proofs.GolayLaws.{golay_size, golay_inside, golay_accepted, row_weight, golay_dmin, golay_distance}
use Rattle.starred.specs.LightestCodewords.{LightestCodewords}

row_zero : encode golay_rows 1 ≡ 0x1B71
unfolding golay_checks
row_zero = refl

-- the places of the message stand above those of the checks, so that the codewords rise with their messages
no_smaller : (u : ℕ) → u < 2 ^ 12 → encode golay_rows u ≢ 0 → 0x1B71 ≤ encode golay_rows u
no_smaller zero h ne = absurd (ne (encode-zero golay_rows))
no_smaller (suc zero) h ne = omega (arith, row_zero)
no_smaller (suc (suc u)) h ne = omega (arith, systematic-codeword 12 golay_checks golay_inside (suc (suc u)) (rw golay_size h))

golay_lightest : Lightest golay_rows 0x1B71
golay_lightest = record {
  codeword = (1, rw golay_accepted.count (lit< tt), sym row_zero);
  nonzero = λ z. omega (arith, z);
  weighs = ap weight (sym row_zero) ∙ row_weight ∙ sym golay_dmin;
  smallest = λ v (u, h, e) ne q. rw e (no_smaller u (rw golay_accepted.count at h) (λ z. ne (e ∙ z)));
}

of_golay : lightest_codeword 24 golay_rows ≡ 0x1B71
of_golay = sym (lightest_only 24 golay_rows golay_accepted.inside (rw golay_dmin golay_distance) 0x1B71 golay_lightest)

pub lightest_codewords : LightestCodewords
unfolding ones message_of lightest_codeword
lightest_codewords = record { one_code = (refl, refl); of_seven = refl; of_six = refl; of_golay = of_golay }
