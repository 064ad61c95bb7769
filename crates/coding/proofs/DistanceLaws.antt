-- Laws of the minimum distance: it is the least weight of a nonzero codeword, is attained, and is the least distance of two
-- different codewords. Assumes nothing.
use mathlib.Core.Path.{◌≡◌, refl, sym, ap, ap₂, ◌∙◌}
use mathlib.Core.Logic.{◌≢◌, ⊎_elim}
use mathlib.Core.List.{List}
use Prim.Native.Nat.{ℕ, zero, suc, ◌-◌, ◌^◌, ◌≤◌, ◌<◌}
use native.Mathlib.Nat.{min-le_left, min-le_right, le_trans, le_refl, le-suc_iff, suc-ne-zero}
use native.Mathlib.Decide.{dec_le}
use native.Mathlib.Omega.{arith}
use lib.ListN.{length}
use lib.Pow.{pow_mono}
use lib.Bits.{xor_lt, xor_zero_r}
use lib.Count.{ones-le}
use Rattle.coding.specs.Word.{◌⊕◌, weight, distance}
use Rattle.coding.specs.Matrix.{encode, Codeword, Inside, Independent}
use Rattle.coding.specs.Weight.{low, dmin, MinimumDistance}
use Rattle.coding.proofs.WordLaws.{xor-eq}
use Rattle.coding.proofs.WeightLaws.{weight_none}
use Rattle.coding.proofs.MatrixLaws.{encode-xor, encode-zero, codeword-lt, codeword-zero}

-- ---- the least of f 0 to f m

pub low-le : (f : ℕ → ℕ) (m i : ℕ) → i ≤ m → low f m ≤ f i
low-le f zero i h = let e : i ≡ 0 = omega arith in rw e (le_refl (f 0))
low-le f (suc m) i h =
    ⊎_elim (λ l. le_trans (min-le_left (low f m) (f (suc m))) (low-le f m i l)) (λ e. rw e (min-le_right (low f m) (f (suc m)))) (le-suc_iff.0 h)

pub low_hit : (f : ℕ → ℕ) (m : ℕ) → (i : ℕ) × (i ≤ m) × (low f m ≡ f i)
low_hit f zero = (0, le_refl 0, refl)
low_hit f (suc m) = go (low_hit f m) (dec_le (low f m) (f (suc m)))
  where
    go : (i : ℕ) × (i ≤ m) × (low f m ≡ f i) → Dec (low f m ≤ f (suc m)) → (i : ℕ) × (i ≤ suc m) × (low f (suc m) ≡ f i)
    go (i, h, e) (yes l) = (i, omega arith, omega arith)
    go r (no l) = (suc m, le_refl (suc m), omega arith)

-- ---- the least weight of the codeword of a message that is not 0

pub dmin-le : (rs : List ℕ) (u : ℕ) → u < 2 ^ length rs → u ≢ 0 → dmin rs ≤ weight (encode rs u)
unfolding dmin
dmin-le rs zero h ne = absurd (ne refl)
dmin-le rs (suc v) h ne = low-le (λ v. weight (encode rs (suc v))) (2 ^ length rs - 2) v (omega arith)

-- one of them weighs that
pub dmin_hit : (rs : List ℕ) → 1 ≤ length rs → (u : ℕ) × (u < 2 ^ length rs) × (u ≢ 0) × (dmin rs ≡ weight (encode rs u))
unfolding dmin
dmin_hit rs h =
    let (v, l, e) = low_hit (λ v. weight (encode rs (suc v))) (2 ^ length rs - 2) in
    (suc v, omega (arith, pow_mono h), suc-ne-zero v, e)

pub codeword-apart : (rs : List ℕ) (a b : ℕ) → Codeword rs a → Codeword rs b → a ≢ b → dmin rs ≤ distance a b
codeword-apart rs a b (u, hu, eu) (v, hv, ev) ne =
    let e : a ⊕ b ≡ encode rs (u ⊕ v) = ap₂ ◌⊕◌ eu ev ∙ sym (encode-xor rs u v) in
    rw e (dmin-le rs (u ⊕ v) (xor_lt (length rs) u v hu hv)
    (λ z. ne (eu ∙ ap (encode rs) (xor-eq u v z) ∙ sym ev)))

-- the minimum distance of independent rows, in 01's words
module _ (n : ℕ) (rs : List ℕ) (fits : Inside n rs) (ind : Independent rs) (pos : 1 ≤ length rs) where
  pub dmin-least : (w : ℕ) → Codeword rs w → w ≢ 0 → dmin rs ≤ weight w
  dmin-least w (u, h, e) ne = rw e (dmin-le rs u h (λ z. ne (e ∙ ap (encode rs) z ∙ encode-zero rs)))

  pub dmin_has : (w : ℕ) × Codeword rs w × (w ≢ 0) × (weight w ≡ dmin rs)
  dmin_has = let (u, h, ne, e) = dmin_hit rs pos in (encode rs u, (u, h, refl), (λ z. ne (ind u h z)), sym e)

  pub minimum_distance : MinimumDistance n rs (dmin rs)
  minimum_distance =
      let (w, c, ne, e) = dmin_has in
      let below : w < 2 ^ n = codeword-lt n rs fits w c in
      let light : weight w ≤ n = ones-le n w below in
      let some : weight w ≢ 0 = λ z. ne (weight_none w z) in
      record {
        attained = dmin_has;
        least = dmin-least;
        attained_apart = (w, 0, c, codeword-zero rs, ne, ap weight (xor_zero_r w) ∙ e);
        apart = codeword-apart rs;
        bounds = (omega arith, omega arith);
      }
