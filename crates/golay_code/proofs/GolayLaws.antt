-- The extended Golay code: an accepted matrix, its minimum distance 8 by one computed test over the 4,096 messages, and P times P is
-- the identity. Assumes nothing.
use mathlib.Core.Path.{◌≡◌, refl, sym, ap, ◌∙◌}
use mathlib.Core.Logic.{◌≢◌}
use mathlib.Core.List.{List, [], ◌∷◌, map}
use mathlib.Core.Bool.{Bool, true, false, cond, ◌&&◌}
use Prim.Native.Nat.{ℕ, ◌^◌, ◌≤◌, ◌<◌}
use native.Mathlib.Nat.{le_antisymm, suc-ne-zero}
use lib.Dec.{T, eqb, leb, ltb, leb→le, ltb→lt, eqb→eq, lit<, lit≤}
use lib.ListN.{length, get_or}
use lib.Bits.{xor_zero_r}
use lib.Count.{ones_in}
use Rattle.coding.specs.Lists.{tabulate}
use Rattle.coding.specs.Word.{weight}
use Rattle.coding.specs.Matrix.{encode, Inside}
use Rattle.coding.specs.Weight.{dmin, MinimumDistance}
use Rattle.coding.specs.Systematic.{systematic}
use Rattle.coding.proofs.WeightLaws.{weight_in}
use Rattle.coding.proofs.TestLaws.{every_entry_lem, every_sum, every_sum_lem}
use Rattle.coding.proofs.MatrixLaws.{encode-xor, encode-zero}
use Rattle.coding.proofs.LinearLaws.{encode-map, identity_rows}
use Rattle.coding.proofs.SystematicLaws.{systematic-length, systematic-inside, systematic-independent}
use Rattle.coding.proofs.DistanceLaws.{dmin-le, dmin_hit, minimum_distance}
use Rattle.words.specs.Accepted.{Accepted}
use Rattle.golay_code.specs.Golay.{golay_checks, golay_rows}

-- the rows of P as numbers
unfoldable pub check_words : List ℕ
check_words = 0xB71 ∷ 0xDB8 ∷ 0xADC ∷ 0x96E ∷ 0x8B7 ∷ 0xC5B ∷ 0xE2D ∷ 0xF16 ∷ 0xB8B ∷ 0xDC5 ∷ 0xEE2 ∷ 0x7FF ∷ []

pub checks_are : golay_checks ≡ check_words
unfolding golay_checks check_words
checks_are = refl

pub check-word : (i : ℕ) → get_or check_words i 0 ≡ get_or golay_checks i 0
check-word i = ap (λ (l : List ℕ). get_or l i 0) (sym checks_are)

pub golay_size : length golay_checks ≡ 12
unfolding golay_checks
golay_size = refl

pub golay_inside : Inside 12 golay_checks
unfolding check_words
golay_inside i h = ltb→lt (get_or golay_checks i 0) (2 ^ 12) (every_entry_lem (λ w. ltb w (2 ^ 12)) golay_checks (rw checks_are tt) i h)

-- P times P is the identity
twice_rows : map (encode golay_checks) golay_checks ≡ tabulate (λ i. 2 ^ i) 12
unfolding golay_checks
twice_rows = refl

pub golay_twice : (u : ℕ) → u < 2 ^ 12 → encode golay_checks (encode golay_checks u) ≡ u
golay_twice u h =
    encode-map (encode golay_checks) (encode-zero golay_checks) (encode-xor golay_checks) golay_checks u
    ∙ ap (λ (l : List ℕ). encode l u) twice_rows ∙ identity_rows 12 u h

pub golay_accepted : Accepted 24 12 golay_rows
golay_accepted = record {
  range = record { places = (lit≤ tt, lit≤ tt); rows = (lit≤ tt, lit≤ tt); checks = (lit≤ tt, lit≤ tt) };
  count = systematic-length 12 golay_checks ∙ golay_size;
  inside = rw golay_size at (systematic-inside 12 golay_checks golay_inside);
  independent = systematic-independent 12 golay_checks golay_inside;
}

-- ---- the minimum distance

-- a word of 24 places that is 0 or weighs 8 or more
heavy : ℕ → Bool
unfolding ones_in
heavy w = ltb w (2 ^ 24) && cond (eqb w 0) true (leb 8 (ones_in 24 w))

all_heavy : T (every_sum heavy (systematic 12 check_words) 0)
unfolding heavy check_words
all_heavy = tt

heavy_means : (w : ℕ) → T (heavy w) → w ≢ 0 → 8 ≤ weight w
unfolding heavy
heavy_means w t ne = go (ltb w (2 ^ 24)) refl (eqb w 0) refl t
  where
    go : (a : Bool) → ltb w (2 ^ 24) ≡ a → (b : Bool) → eqb w 0 ≡ b → T (a && cond b true (leb 8 (ones_in 24 w))) → 8 ≤ weight w
    go false e b q t = absurd t
    go true e true q t = absurd (ne (eqb→eq w 0 (rw q tt)))
    go true e false q t = rw (weight_in 24 w (ltb→lt w (2 ^ 24) (rw e tt))) at (leb→le 8 (ones_in 24 w) t)

codeword_heavy : (u : ℕ) → encode golay_rows u ≢ 0 → 8 ≤ weight (encode golay_rows u)
codeword_heavy u =
    heavy_means (encode golay_rows u)
    (rw (xor_zero_r (encode golay_rows u)) at (every_sum_lem heavy golay_rows 0 (rw checks_are all_heavy) u))

-- row 0 weighs 8
pub row_weight : weight (encode golay_rows 1) ≡ 8
unfolding ones_in check_words
row_weight =
    ap (λ (l : List ℕ). weight (encode (systematic 12 l) 1)) checks_are
    ∙ sym (weight_in 24 (encode (systematic 12 check_words) 1) (lit< tt))

pub golay_dmin : dmin golay_rows ≡ 8
golay_dmin =
    le_antisymm (rw row_weight at (dmin-le golay_rows 1 (rw golay_accepted.count (lit< tt)) (suc-ne-zero 0)))
    (go (dmin_hit golay_rows (rw golay_accepted.count (lit≤ tt))))
  where
    go : (u : ℕ) × (u < 2 ^ length golay_rows) × (u ≢ 0) × (dmin golay_rows ≡ weight (encode golay_rows u)) → 8 ≤ dmin golay_rows
    go (u, h, ne, e) = rw e (codeword_heavy u (λ z. ne (golay_accepted.independent u h z)))

pub golay_distance : MinimumDistance 24 golay_rows 8
golay_distance =
    rw golay_dmin at
    (minimum_distance 24 golay_rows golay_accepted.inside golay_accepted.independent (rw golay_accepted.count (lit≤ tt)))
