-- Laws of weight, distance and parity: one exact law gives subadditivity, the parity of a sum, and that distance is a metric.
-- Assumes nothing.
use mathlib.Core.Path.{◌≡◌, refl, sym, ap, ap₂, ◌∙◌}
use Prim.Native.Nat.{ℕ, zero, suc, ◌+◌, ◌*◌, ◌/◌, ◌%◌, ◌^◌, ◌≤◌, ◌<◌, min}
use native.Mathlib.Nat.{pow-suc}
use native.Mathlib.Omega.{arith}
use lib.Arith.{bin_ind}
use lib.Bits.{bit_and, and_comm, and_zero_r, xor_comm, xor_self}
use lib.Count.{ones, ones_in, ones_step}
use Rattle.coding.specs.Word.{◌⊕◌, bit, weight, distance, parity}
use Rattle.coding.proofs.WordLaws.{halves_eq, xor-half, xor-odd, and-half, and-odd, xor_assoc, xor_cancel_r, bit-half, pow-half, pow_even, half_lt}

pub weight-zero : weight 0 ≡ 0
unfolding ones
weight-zero = refl

digit-sum : (x y a b : ℕ) → x % 2 ≡ (a + b) % 2 → y % 2 ≡ min (a % 2) (b % 2) → x % 2 + 2 * (y % 2) ≡ a % 2 + b % 2
digit-sum x y a b h k = omega arith

-- the weight of a word of k places, in k steps: the form in which a weight is computed
pub weight_in : (k w : ℕ) → w < 2 ^ k → ones_in k w ≡ weight w
unfolding ones_in
weight_in zero w h = let e : w ≡ 0 = omega arith in rw e (sym weight-zero)
weight_in (suc k) w h = ap (λ (x : ℕ). w % 2 + x) (weight_in k (w / 2) (half_lt k h)) ∙ sym (ones_step w)

-- the weights of two words, by that of their sum and that of what they share
pub weight-xor-and : (a b : ℕ) → weight (a ⊕ b) + 2 * weight (bit_and a b) ≡ weight a + weight b
weight-xor-and a =
    bin_ind (λ (n : ℕ). (b : ℕ) → weight (n ⊕ b) + 2 * weight (bit_and n b) ≡ weight n + weight b) (λ b. omega (arith, weight-zero))
    (λ n ih b.
    let s : weight (n ⊕ b) ≡ (n ⊕ b) % 2 + weight ((n / 2) ⊕ (b / 2)) = rw (← xor-half n b) (ones_step (n ⊕ b)) in
    let t : weight (bit_and n b) ≡ bit_and n b % 2 + weight (bit_and (n / 2) (b / 2)) = rw (← and-half n b) (ones_step (bit_and n b)) in
    omega (arith, s, t, ones_step n, ones_step b, ih (b / 2), digit-sum (n ⊕ b) (bit_and n b) n b (xor-odd n b) (and-odd n b))) a

pub weight-xor-odd : (a b : ℕ) → weight (a ⊕ b) % 2 ≡ (weight a + weight b) % 2
weight-xor-odd a b = omega (arith, weight-xor-and a b)

pub weight-xor-le : (a b : ℕ) → weight (a ⊕ b) ≤ weight a + weight b
weight-xor-le a b = omega (arith, weight-xor-and a b)

-- only 0 weighs nothing
pub weight_none : (a : ℕ) → weight a ≡ 0 → a ≡ 0
weight_none =
    bin_ind (λ (n : ℕ). weight n ≡ 0 → n ≡ 0) (λ e. refl)
    (λ n ih e. halves_eq n 0 (ih (omega (arith, ones_step n))) (omega (arith, ones_step n)))

pub distance_sym : (a b : ℕ) → distance a b ≡ distance b a
distance_sym a b = ap weight (xor_comm a b)

pub distance_self : (a : ℕ) → distance a a ≡ 0
distance_self a = ap weight (xor_self a) ∙ weight-zero

pub distance_tri : (a b c : ℕ) → distance a c ≤ distance a b + distance b c
distance_tri a b c = rw (ap weight (sym (xor_assoc (a ⊕ b) b c) ∙ ap (λ (x : ℕ). x ⊕ c) (xor_cancel_r b a))) at (weight-xor-le (a ⊕ b) (b ⊕ c))

-- ---- what a mask shares with a sum, and its parity

and-digit : (x p q a b h : ℕ) → x % 2 ≡ (a + b) % 2 → p % 2 ≡ min (a % 2) (h % 2) → q % 2 ≡ min (b % 2) (h % 2)
    → min (x % 2) (h % 2) ≡ (p + q) % 2
and-digit x p q a b h e f g = omega arith

pub and_xor : (a b h : ℕ) → bit_and (a ⊕ b) h ≡ bit_and a h ⊕ bit_and b h
and_xor a =
    bin_ind (λ (n : ℕ). (b h : ℕ) → bit_and (n ⊕ b) h ≡ bit_and n h ⊕ bit_and b h) (λ b h. refl)
    (λ n ih b h. halves_eq _ _ (simp (xor-half, and-half) (ih (b / 2) (h / 2)))
    (and-odd (n ⊕ b) h
    ∙ and-digit (n ⊕ b) (bit_and n h) (bit_and b h) n b h (xor-odd n b) (and-odd n h) (and-odd b h)
    ∙ sym (xor-odd (bit_and n h) (bit_and b h)))) a

pub parity-lt : (w h : ℕ) → parity w h < 2
unfolding parity
parity-lt w h = omega arith

pub parity-xor : (a b h : ℕ) → parity (a ⊕ b) h ≡ (parity a h + parity b h) % 2
unfolding parity
parity-xor a b h = ap (λ (x : ℕ). weight x % 2) (and_xor a b h) ∙ omega (arith, weight-xor-and (bit_and a h) (bit_and b h))

pub parity_comm : (w h : ℕ) → parity w h ≡ parity h w
unfolding parity
parity_comm w h = ap (λ (x : ℕ). weight x % 2) (and_comm w h)

pub parity-xor_r : (w g h : ℕ) → parity w (g ⊕ h) ≡ (parity w g + parity w h) % 2
parity-xor_r w g h = rw (parity_comm w (g ⊕ h), parity_comm w g, parity_comm w h) (parity-xor g h w)

pub parity-zero : (w : ℕ) → parity w 0 ≡ 0
unfolding parity
parity-zero w = ap (λ (x : ℕ). weight x % 2) (and_zero_r w) ∙ ap (λ (x : ℕ). x % 2) weight-zero

-- by the lowest place and the rest
pub parity_step : (w h : ℕ) → parity w h ≡ (min (w % 2) (h % 2) + parity (w / 2) (h / 2)) % 2
unfolding parity
parity_step w h =
    ap (λ (x : ℕ). x % 2) (ones_step (bit_and w h) ∙ ap₂ (λ (x y : ℕ). x + weight y) (and-odd w h) (and-half w h)) ∙ omega arith

pub parity-pow : (w q : ℕ) → parity w (2 ^ q) ≡ bit w q
parity-pow w zero = parity_step w 1 ∙ ap (λ (x : ℕ). (min (w % 2) 1 + x) % 2) (parity-zero (w / 2)) ∙ omega arith
parity-pow w (suc q) =
    parity_step w (2 ^ suc q)
    ∙ ap₂ (λ (x y : ℕ). (min (w % 2) x + parity (w / 2) y) % 2) (pow_even q) (pow-half q)
    ∙ omega (arith, parity-lt (w / 2) (2 ^ q), parity-pow (w / 2) q, bit-half w q)

-- ---- one place taken out of a word

pub weight-and-le : (a b : ℕ) → weight (bit_and a b) ≤ weight b
weight-and-le a b =
    let t : weight a ≤ weight (a ⊕ b) + weight b = rw (xor_cancel_r b a) at (weight-xor-le (a ⊕ b) b) in
    omega (arith, weight-xor-and a b)

pub weight-pow : (q : ℕ) → weight (2 ^ q) ≡ 1
weight-pow zero = ones_step 1 ∙ ap (λ (x : ℕ). 1 + x) weight-zero
weight-pow (suc q) = omega (arith, rw (pow-half q) at (ones_step (2 ^ suc q)), pow_even q, weight-pow q)

pub weight_less : (w q : ℕ) → bit w q ≡ 1 → suc (weight (w ⊕ 2 ^ q)) ≡ weight w
unfolding parity
weight_less w q e = omega (arith, weight-xor-and w (2 ^ q), weight-and-le w (2 ^ q), weight-pow q, parity-pow w q)

-- a word of weight 1 is a single place
pub weight-one : (m y : ℕ) → y < 2 ^ m → weight y ≡ 1 → (i : ℕ) × (i < m) × (y ≡ 2 ^ i)
weight-one zero y h e = let z : y ≡ 0 = omega arith in absurd (omega (arith, e, ap weight z, weight-zero))
weight-one (suc m) y h e = go (y % 2) refl (λ z. weight-one m (y / 2) (half_lt m h) z)
  where
    go : (c : ℕ) → y % 2 ≡ c → (weight (y / 2) ≡ 1 → (i : ℕ) × (i < m) × (y / 2 ≡ 2 ^ i)) → (i : ℕ) × (i < suc m) × (y ≡ 2 ^ i)
    go zero q ih =
        let (i, l, f) = ih (omega (arith, ones_step y, q, e)) in
        (suc i, omega arith, omega (arith, q, f, pow-suc 2 i))
    go (suc c) q ih =
        let z : y / 2 ≡ 0 = weight_none (y / 2) (omega (arith, ones_step y, q, e)) in
        (0, omega arith, omega (arith, q, z))
