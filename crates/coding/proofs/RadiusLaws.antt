-- Laws of the radius rules, over any words, distance and set of codewords that are D apart: demand 3 follows from a
-- codeword found within the radius, or none there, and so from a nearest codeword.
-- Assumes nothing.
use mathlib.Core.Path.{◌≡◌, sym, ap, ◌∙◌}
use mathlib.Core.Logic.{◌≢◌, ◌↔◌, ◌⊎◌, inl, inr}
use Prim.Native.Nat.{ℕ, ◌+◌, ◌*◌, ◌≤◌, ◌<◌}
use native.Mathlib.Decide.{dec_le}
use native.Mathlib.Omega.{arith}
use Rattle.coding.specs.Radius.{NearestRule, RadiusRules}

module _ (W : Type 0) (same : Discrete W) (δ : W → W → ℕ) (sy : (a b : W) → δ a b ≡ δ b a) (tri : (a b c : W) → δ a c ≤ δ a b + δ b c)
    (C : W → Type 0) (D : ℕ) (apart : (a b : W) → C a → C b → a ≢ b → D ≤ δ a b) where
  -- at most one codeword is within r
  pub one-within : (r : ℕ) (w a b : W) → 2 * r + 1 ≤ D → C a → C b → δ w a ≤ r → δ w b ≤ r → a ≡ b
  one-within r w a b h ca cb ha hb = go (same a b)
    where
      go : Dec (a ≡ b) → a ≡ b
      go (yes e) = e
      go (no ne) = absurd (omega (arith, apart a b ca cb ne, tri a w b, sy a w))

  -- a codeword a, changed in more than r places and few enough, is within r of none
  pub far_beyond : (r : ℕ) (w a b : W) → C a → C b → r < δ w a → δ w a + r + 1 ≤ D → r < δ w b
  far_beyond r w a b ca cb l h = go (same a b)
    where
      go : Dec (a ≡ b) → r < δ w b
      go (yes e) = rw e at l
      go (no ne) = omega (arith, apart a b ca cb ne, tri a w b, sy a w)

  -- demand 3 within radius r, where the answer d is a codeword within r, or far and no codeword is within r
  pub radius-found : (r : ℕ) → 2 * r + 1 ≤ D → (w d : W) (count : ℕ) (Far : Type 0)
      → (Far × ((b : W) → C b → r < δ w b)) ⊎ ((Far → ⊥) × C d × (count ≡ δ w d) × (δ w d ≤ r)) → RadiusRules W C δ D r w d count Far
  radius-found r h w d count Far (inl (f, none)) = record {
    far_exactly = (λ _. none, λ _. f);
    codeword = λ k. absurd (k f);
    counted = λ k. absurd (k f);
    within = λ k. absurd (k f);
    only = λ b cb l. absurd (omega (arith, none b cb));
    sent_back = λ b cb l. absurd (omega (arith, none b cb));
    sent_far = λ b cb l g. f;
  }
  radius-found r h w d count Far (inr (k, cd, e, l)) = record {
    far_exactly = (λ f. absurd (k f), λ none. absurd (omega (arith, none d cd)));
    codeword = λ _. cd;
    counted = λ _. e;
    within = λ _. omega arith;
    only = λ b cb m. one-within r w b d h cb cd m l;
    sent_back = λ b cb m. (k, one-within r w d b h cd cb l m);
    sent_far = λ b cb m g. absurd (omega (arith, far_beyond r w b d cb cd m g));
  }

  -- the same where c is a nearest codeword, and the answer is far exactly when c is more than r away
  pub radius_rules : (r : ℕ) → 2 * r + 1 ≤ D → (w c : W) → NearestRule W C δ w c (δ w c) → (d : W) (count : ℕ) (Far : Type 0)
      → (Far ↔ (r < δ w c)) → ((Far → ⊥) → (d ≡ c) × (count ≡ δ w c)) → RadiusRules W C δ D r w d count Far
  radius_rules r h w c N d count Far is not-far = radius-found r h w d count Far (go (dec_le (δ w c) r))
    where
      go : Dec (δ w c ≤ r) → (Far × ((b : W) → C b → r < δ w b)) ⊎ ((Far → ⊥) × C d × (count ≡ δ w d) × (δ w d ≤ r))
      go (no l) = inl (is.1 (omega arith), λ b cb. omega (arith, N.nearest b cb))
      go (yes l) =
          let k : Far → ⊥ = λ f. absurd (omega (arith, is.0 f)) in
          let e : d ≡ c = (not-far k).0 in
          inr (k, rw e N.codeword, (not-far k).1 ∙ ap (δ w) (sym e), rw e l)
