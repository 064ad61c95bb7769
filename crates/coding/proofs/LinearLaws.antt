-- A linear map is known by its values at the words with a single one: the sum of those that the places of a word select. Assumes nothing.
use mathlib.Core.Path.{◌≡◌, refl, sym, ap, ap₂, ◌∙◌}
use mathlib.Core.List.{List, [], ◌∷◌, map}
use Prim.Native.Nat.{ℕ, zero, suc, ◌+◌, ◌*◌, ◌/◌, ◌%◌, ◌^◌, ◌<◌}
use native.Mathlib.Nat.{pow-suc, mul_comm}
use native.Mathlib.Omega.{arith}
use Rattle.coding.specs.Lists.{tabulate}
use Rattle.coding.specs.Word.{◌⊕◌}
use Rattle.coding.specs.Matrix.{sel, encode}
use Rattle.coding.specs.Check.{syndrome}
use Rattle.coding.proofs.WordLaws.{halves_eq, half_lt, xor-half, xor-digit, xor_fix}
use Rattle.coding.proofs.CheckLaws.{syndrome-xor}
use Rattle.coding.proofs.ListLaws.{tabulate_same}

double-half : (a : ℕ) → 2 * a / 2 ≡ a
double-half a = omega arith

double-even : (a : ℕ) → 2 * a % 2 ≡ 0
double-even a = omega arith

-- twice a sum is the sum of the doubles
double-xor : (a b : ℕ) → 2 * (a ⊕ b) ≡ 2 * a ⊕ 2 * b
double-xor a b =
    halves_eq _ _ (double-half (a ⊕ b) ∙ sym (xor-half (2 * a) (2 * b) ∙ ap₂ ◌⊕◌ (double-half a) (double-half b)))
    (double-even (a ⊕ b) ∙ sym (xor-digit (2 * a) (2 * b) ∙ ap₂ (λ (x y : ℕ). (x + y) % 2) (double-even a) (double-even b)))

-- a word by its lowest place and the rest
lowest_xor : (w : ℕ) → (w % 2) ⊕ 2 * (w / 2) ≡ w
lowest_xor w =
    halves_eq _ _
    (xor-half (w % 2) (2 * (w / 2)) ∙ ap₂ ◌⊕◌ (zero-half w) (double-half (w / 2)))
    (xor-digit (w % 2) (2 * (w / 2)) ∙ ap₂ (λ (x y : ℕ). (x + y) % 2) (twice_odd w) (double-even (w / 2)) ∙ odd-odd w)
  where
    zero-half : (w : ℕ) → w % 2 / 2 ≡ 0
    zero-half w = omega arith

    twice_odd : (w : ℕ) → w % 2 % 2 ≡ w % 2
    twice_odd w = omega arith

    odd-odd : (w : ℕ) → (w % 2 + 0) % 2 ≡ w % 2
    odd-odd w = omega arith

pub linear_columns : (f : ℕ → ℕ) → f 0 ≡ 0 → ((a b : ℕ) → f (a ⊕ b) ≡ f a ⊕ f b) → (m w : ℕ) → w < 2 ^ m
    → encode (tabulate (λ p. f (2 ^ p)) m) w ≡ f w
linear_columns f z lin zero w h = let e : w ≡ 0 = omega arith in sym (ap f e ∙ z)
linear_columns f z lin (suc m) w h =
    ap₂ ◌⊕◌ (digit (w % 2) (omega arith))
    (ap (λ (l : List ℕ). encode l (w / 2)) (tabulate_same (λ p. f (2 ^ suc p)) (λ p. f (2 * 2 ^ p)) m (λ i k. ap f (pow-suc 2 i ∙ mul_comm (2 ^ i) 2)))
    ∙ linear_columns (λ x. f (2 * x)) z (λ a b. ap f (double-xor a b) ∙ lin (2 * a) (2 * b)) m (w / 2) (half_lt m h))
    ∙ sym (lin (w % 2) (2 * (w / 2))) ∙ ap f (lowest_xor w)
  where
    digit : (c : ℕ) → c < 2 → sel c (f (2 ^ 0)) ≡ f c
    digit zero h = sym z
    digit (suc zero) h = refl
    digit (suc (suc c)) h = absurd (omega arith)

-- a linear map of a sum of rows is the sum of its values at the rows
pub encode-map : (f : ℕ → ℕ) → f 0 ≡ 0 → ((a b : ℕ) → f (a ⊕ b) ≡ f a ⊕ f b) → (rs : List ℕ) (u : ℕ) → f (encode rs u) ≡ encode (map f rs) u
encode-map f z lin [] u = z
encode-map f z lin (r ∷ rs) u = lin (sel (u % 2) r) (encode rs (u / 2)) ∙ ap₂ ◌⊕◌ (digit (u % 2)) (encode-map f z lin rs (u / 2))
  where
    digit : (c : ℕ) → f (sel c r) ≡ sel c (f r)
    digit zero = z
    digit (suc c) = refl

-- the rows of the identity matrix select the message itself
pub identity_rows : (m u : ℕ) → u < 2 ^ m → encode (tabulate (λ p. 2 ^ p) m) u ≡ u
identity_rows m u h = linear_columns (λ x. x) refl (λ a b. refl) m u h

-- the syndrome by columns
pub syndrome-columns : (hs : List ℕ) (m w : ℕ) → w < 2 ^ m → encode (tabulate (λ p. syndrome hs (2 ^ p)) m) w ≡ syndrome hs w
syndrome-columns hs m w h = linear_columns (syndrome hs) (syndrome_of_zero hs) (syndrome-xor hs) m w h
  where
    syndrome_of_zero : (hs : List ℕ) → syndrome hs 0 ≡ 0
    syndrome_of_zero hs = xor_fix (syndrome hs 0) (sym (syndrome-xor hs 0 0))
