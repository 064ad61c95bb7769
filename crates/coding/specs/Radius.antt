-- 00, demand 3, for words of any kind W: C are the codewords, δ the number of places in which two words differ, D the minimum distance.
-- A word w is the sent codeword b changed in δ w b places.
use Rattle.std.specs.Prelude.{◌≡◌, ◌↔◌, ℕ, ◌+◌, ◌≤◌, ◌<◌}

-- nearest reading: the answer c is a codeword, its count is the number of places in which it differs from the received word w, and
-- every codeword differs from w in at least as many
pub record NearestRule (W : Type 0) (C : W → Type 0) (δ : W → W → ℕ) (w c : W) (count : ℕ) : Type 0 where
  pub codeword : C c
  pub counted : count ≡ δ w c
  pub nearest : (b : W) → C b → count ≤ δ w b

-- within radius r: "far" exactly when every codeword differs from w in more than r places; otherwise the answer c is the one codeword
-- within r places, with its count likewise. A sent codeword changed in at most r places comes back; one changed in more than r and at
-- most D - 1 - r places is far
pub record RadiusRules (W : Type 0) (C : W → Type 0) (δ : W → W → ℕ) (D r : ℕ) (w c : W) (count : ℕ) (Far : Type 0) : Type 0 where
  pub far_exactly : Far ↔ ((b : W) → C b → r < δ w b)
  pub codeword : (Far → ⊥) → C c
  pub counted : (Far → ⊥) → count ≡ δ w c
  pub within : (Far → ⊥) → count ≤ r
  pub only : (b : W) → C b → δ w b ≤ r → b ≡ c
  pub sent_back : (b : W) → C b → δ w b ≤ r → (Far → ⊥) × (c ≡ b)
  pub sent_far : (b : W) → C b → r < δ w b → δ w b + r + 1 ≤ D → Far
