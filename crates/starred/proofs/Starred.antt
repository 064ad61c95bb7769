-- The value of the table of starred cases: each part by computation, but for the mended Golay word.
use mathlib.Core.Path.{◌≡◌, refl, sym, ap, ap₂, ◌∙◌}
use Prim.Native.Nat.{ℕ}
use native.Mathlib.Omega.{arith}
use lib.Dec.{lit<, lit≤}
use lib.Count.{ones, ones_in, count_trailing_zeros}
use Rattle.coding.specs.Word.{◌⊕◌, parity, distance}
use Rattle.coding.specs.Matrix.{encode, message_of, Codeword}
use Rattle.coding.specs.Weight.{dmin, weight_count}
use Rattle.coding.specs.Radius.{RadiusRules}
use Rattle.coding.proofs.WeightLaws.{weight_in}
use Rattle.words.specs.Shape.{shape_answer}
use Rattle.words.specs.Accepted.{matrix_answer}
use Rattle.outcomes.specs.Outcome.{word_in, count_in}
use Rattle.outcomes.specs.declared.ending.Outcome.{Outcome}
use Rattle.outcomes.specs.declared.ending.Outcome.TheVariants.{Clean, Mended, Far}
use Rattle.golay_code.specs.Golay.{golay_checks, golay_rows}
use Rattle.golay_code.proofs.GolayLaws.{golay_accepted}
use Rattle.golay.specs.Decoded.{golay_outcome}
use Rattle.golay.proofs.GolayDecodeLaws.{golay_rules}
use Rattle.hsiao.specs.Table.{columns}
use Rattle.starred.specs.Matrices.{digits}
use Rattle.starred.specs.Starred.{Starred}

-- ---- the mended Golay word

received : ℕ
received = digits 24 0b100000110100_110000000001

codeword : ℕ
codeword = digits 24 0b100100110110_110000000000

golay_encoded : encode golay_rows (digits 12 0b110000000000) ≡ digits 24 0b100100110110_110000000000
unfolding golay_checks
golay_encoded = refl

three-apart : distance received codeword ≡ 3
unfolding received codeword ones_in
three-apart = sym (weight_in 24 (received ⊕ codeword) (lit< tt))

is_codeword_lem : Codeword golay_rows codeword
unfolding codeword
is_codeword_lem = (3, rw golay_accepted.count (lit< tt), sym golay_encoded)

rules :
    RadiusRules ℕ (Codeword golay_rows) distance 8 3 received (word_in (golay_outcome received) received) (count_in (golay_outcome received))
    (count_in (golay_outcome received) ≡ 255)
unfolding received
rules = golay_rules received (lit< tt)

comes_back : (count_in (golay_outcome received) ≡ 255 → ⊥) × (word_in (golay_outcome received) received ≡ codeword)
comes_back = rules.sent_back codeword is_codeword_lem (rw three-apart (lit≤ tt))

-- an outcome with a count of 3 is Mended, with its word
mended_by : (o : Outcome ℕ) (w c : ℕ) → word_in o w ≡ c → count_in o ≡ 3 → o ≡ Mended c 3
mended_by (Clean x) w c e q = absurd (omega (arith, q))
mended_by (Mended x d) w c e q = ap₂ Mended e q
mended_by Far w c e q = absurd (omega (arith, q))

golay_mended : golay_outcome received ≡ Mended codeword 3
golay_mended =
    mended_by (golay_outcome received) received codeword comes_back.1
    (rules.counted comes_back.0 ∙ ap (distance received) comes_back.1 ∙ three-apart)

-- ---- the table

pub starred : Starred
unfolding received codeword matrix_answer shape_answer message_of count_trailing_zeros dmin ones weight_count parity columns
starred = record {
  seven_encoded = (refl, refl);
  seven-reduced = (refl, refl);
  seven_weights = refl;
  seven-decoded = (refl, refl, refl);
  five_leaders = (refl, refl);
  four_dependent = (refl, refl, refl);
  golay_encoded = golay_encoded;
  golay_mended = golay_mended;
  split_encoded = (refl, refl);
  split-decoded = (refl, refl, refl);
}
