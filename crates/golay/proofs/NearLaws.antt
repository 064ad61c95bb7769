-- The rows of P near a word: the code's constants are the lanes of P, and lane i reaches 16 exactly where row i is within distance 2.
use mathlib.Core.Path.{◌≡◌, refl, sym, ap, ◌∙◌}
use mathlib.Core.List.{List, [], ◌∷◌}
use Prim.Native.Nat.{ℕ, ◌+◌, ◌-◌, ◌*◌, ◌/◌, ◌%◌, ◌^◌, ◌≤◌, ◌<◌}
use native.Mathlib.Nat.{lt_of_le_of_lt, mul_comm}
use native.Mathlib.Decide.{dec_le}
use native.Mathlib.Omega.{arith}
use lib.Dec.{leb, eqb, eqb→eq}
use lib.ListN.{length, get_or}
use lib.Bits.{bit_and, and_le_l}
use lib.Count.{ones, ones_in, ones-le, count_trailing_zeros}
use borrow.Author.Tests.{le-leb, lt-leb}
use Rattle.coding.specs.Lists.{first, tabulate}
use Rattle.coding.specs.Word.{◌⊕◌, bit, weight}
use Rattle.coding.proofs.WeightLaws.{weight-xor-and}
use Rattle.coding.proofs.TestLaws.{every_entry_lem}
use Rattle.coding.proofs.SearchLaws.{first_same}
use Rattle.coding.proofs.ListLaws.{get_d_tabulate}
use Rattle.golay_code.specs.Golay.{golay_checks}
use Rattle.golay_code.proofs.GolayLaws.{golay_size, golay_inside}
use Rattle.golay.specs.Inner.Lanes.{lanes}
use Rattle.golay.proofs.LaneLaws.{Each, lanes_same, lanes-add, lanes_times, lanes-lt, lanes_high, first_lane}

-- ---- the constants

-- entry j: place j of each row
unfoldable pub place_words : List ℕ
place_words =
    0x80210042100001 ∷ 0x84010802108000 ∷ 0x80200840108400 ∷ 0x80010042008420 ∷ 0x80000802100421 ∷ 0x84000040108021
    ∷ 0x84200002008401 ∷ 0x84210000100420 ∷ 0x80210800008021 ∷ 0x84010840000401 ∷ 0x84200842000020 ∷ 0x4210842108421 ∷ []

place_table : place_words ≡ tabulate (λ j. lanes (λ p. bit p j) golay_checks) 12
unfolding place_words golay_checks
place_table = refl

pub place-lanes : (j : ℕ) → j < 12 → get_or place_words j 0 ≡ lanes (λ p. bit p j) golay_checks
place-lanes j h = ap (λ (l : List ℕ). get_or l j 0) place_table ∙ get_d_tabulate (λ j. lanes (λ p. bit p j) golay_checks) 12 j h

pub one-lanes : 0x84210842108421 ≡ lanes (λ p. 1) golay_checks
unfolding golay_checks
one-lanes = refl

pub high_lanes : 0x842108421084210 ≡ lanes (λ p. 16) golay_checks
unfolding golay_checks
high_lanes = refl

pub row_lanes : 0x5B5AD6B5AD6B5AD ≡ lanes (λ p. 16 - weight p / 2) golay_checks
unfolding golay_checks ones ones_in
row_lanes = refl

-- every row has odd weight
rows_odd : Each (λ p. weight p % 2 ≡ 1) golay_checks
unfolding golay_checks ones ones_in
rows_odd i h = eqb→eq (weight (get_or golay_checks i 0) % 2) 1 (every_entry_lem (λ p. eqb (weight p % 2) 1) golay_checks tt i h)

-- ---- the tests

leb_same : (a b c d : ℕ) → (a ≤ b → c ≤ d) → (c ≤ d → a ≤ b) → leb a b ≡ leb c d
leb_same a b c d f g = go (dec_le a b)
  where
    go : Dec (a ≤ b) → leb a b ≡ leb c d
    go (yes h) = le-leb a b h ∙ sym (le-leb c d (f h))
    go (no h) = lt-leb a b (omega arith) ∙ sym (lt-leb c d (lt (dec_le c d)))
      where
        lt : Dec (c ≤ d) → d < c
        lt (yes l) = absurd (h (g l))
        lt (no l) = omega arith

module _ (s : ℕ) (h : s < 2 ^ 12) where
  light : weight s ≤ 12
  light = ones-le 12 s h

  pub overlap_light : (p : ℕ) → weight (bit_and s p) ≤ 12
  overlap_light p = ones-le 12 (bit_and s p) (lt_of_le_of_lt (and_le_l s p) h)

  -- what is added in a row's lane
  gap : ℕ → ℕ
  gap p = 16 - weight p / 2 - weight s / 2

  -- the lane of a row
  reach : ℕ → ℕ
  reach p = weight (bit_and s p) + gap p

  row_light : (i : ℕ) → i < length golay_checks → weight (get_or golay_checks i 0) ≤ 12
  row_light i l = ones-le 12 (get_or golay_checks i 0) (golay_inside i l)

  below : Each (λ p. reach p < 32) golay_checks
  unfolding gap reach
  below i l = omega (arith, overlap_light (get_or golay_checks i 0))

  gaps : lanes (λ p. 16 - weight p / 2) golay_checks - weight s / 2 * lanes (λ p. 1) golay_checks ≡ lanes gap golay_checks
  unfolding gap
  gaps =
      let scaled : weight s / 2 * lanes (λ p. 1) golay_checks ≡ lanes (λ p. 1 * (weight s / 2)) golay_checks
      = mul_comm (weight s / 2) (lanes (λ p. 1) golay_checks) ∙ lanes_times (λ p. 1) (weight s / 2) golay_checks in
      let parts : lanes gap golay_checks + lanes (λ p. 1 * (weight s / 2)) golay_checks ≡ lanes (λ p. 16 - weight p / 2) golay_checks
      = lanes-add gap (λ p. 1 * (weight s / 2)) golay_checks
      ∙ lanes_same (λ p. gap p + 1 * (weight s / 2)) (λ p. 16 - weight p / 2) golay_checks (λ i l. omega (arith, row_light i l, light)) in
      omega (arith, scaled, parts)

  reached : lanes (λ p. weight (bit_and s p)) golay_checks + (lanes (λ p. 16 - weight p / 2) golay_checks - weight s / 2 * lanes (λ p. 1) golay_checks)
      ≡ lanes reach golay_checks
  unfolding reach
  reached = ap (λ (x : ℕ). lanes (λ p. weight (bit_and s p)) golay_checks + x) gaps ∙ lanes-add (λ p. weight (bit_and s p)) gap golay_checks

  -- a lane reaches 16 exactly where its row is near
  near_test : (i : ℕ) → i < length golay_checks → leb 16 (reach (get_or golay_checks i 0)) ≡ leb (weight (s ⊕ get_or golay_checks i 0)) 2
  unfolding gap reach
  near_test i l =
      let p = get_or golay_checks i 0 in
      let sum : weight (s ⊕ p) + 2 * weight (bit_and s p) ≡ weight s + weight p = weight-xor-and s p in
      let odd : weight p % 2 ≡ 1 = rows_odd i l in
      leb_same 16 (weight (bit_and s p) + (16 - weight p / 2 - weight s / 2)) (weight (s ⊕ p)) 2
      (λ k. omega (arith, sum, odd, k, row_light i l, light)) (λ k. omega (arith, sum, odd, k, row_light i l, light))

  pub near_is : (r : ℕ)
      → r ≡ lanes (λ p. weight (bit_and s p)) golay_checks + (lanes (λ p. 16 - weight p / 2) golay_checks - weight s / 2 * lanes (λ p. 1) golay_checks)
      → count_trailing_zeros 64 (bit_and r (lanes (λ p. 16) golay_checks)) / 5 ≡ first (λ i. leb (weight (s ⊕ get_or golay_checks i 0)) 2) 12
  near_is r e =
      ap (λ (x : ℕ). count_trailing_zeros 64 (bit_and x (lanes (λ p. 16) golay_checks)) / 5) (e ∙ reached)
      ∙ ap (λ (x : ℕ). count_trailing_zeros 64 x / 5) (lanes_high reach golay_checks below)
      ∙ (rw golay_size at (first_lane (λ p. leb 16 (reach p)) golay_checks))
      ∙ first_same (λ i. leb 16 (reach (get_or golay_checks i 0)))
      (λ i. leb (weight (s ⊕ get_or golay_checks i 0)) 2) 12 (λ i l. near_test i (rw golay_size l))

  -- the sums fit in 64 bits
  pub overlaps-lt : lanes (λ p. weight (bit_and s p)) golay_checks < 2 ^ 60
  overlaps-lt =
      rw golay_size at
      (lanes-lt (λ p. weight (bit_and s p)) golay_checks (λ i l. omega (arith, overlap_light (get_or golay_checks i 0))))
