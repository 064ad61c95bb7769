-- Laws of words: the sum is associative and cancels, a place of a sum is the sum of the places, and words of n places with the
-- same places are equal. That places below n stay below n is the kit's `xor_lt`. Assumes nothing.
use mathlib.Core.Path.{◌≡◌, refl, sym, ap, ◌∙◌}
use mathlib.Core.Logic.{◌≢◌}
use Prim.Native.Nat.{ℕ, zero, suc, ◌+◌, ◌/◌, ◌%◌, ◌^◌, ◌<◌, min}
use native.Mathlib.Nat.{zero-div, div_self, pow-suc}
use native.Mathlib.Numerals.{one-add}
use native.Mathlib.Omega.{arith}
use lib.Arith.{bin_ind}
use lib.Pow.{pow_pos, shr-shr}
use lib.Bits.{bit_and, xor_shr, and_shr, and_step, xor_add_and, xor_self, xor_comm, xor_zero_r}
use Rattle.coding.specs.Word.{◌⊕◌, bit}

pub halves_eq : (a b : ℕ) → a / 2 ≡ b / 2 → a % 2 ≡ b % 2 → a ≡ b
halves_eq a b h l = omega arith

pub xor-half : (a b : ℕ) → (a ⊕ b) / 2 ≡ (a / 2) ⊕ (b / 2)
xor-half a b = xor_shr a b 1

pub xor-odd : (a b : ℕ) → (a ⊕ b) % 2 ≡ (a + b) % 2
xor-odd a b = omega (arith, xor_add_and a b)

pub xor-digit : (a b : ℕ) → (a ⊕ b) % 2 ≡ (a % 2 + b % 2) % 2
xor-digit a b = omega (arith, xor_add_and a b)

-- the lowest digit of a sum of three
odd_l : (x a b c : ℕ) → x % 2 ≡ (a + b) % 2 → (x + c) % 2 ≡ (a + b + c) % 2
odd_l x a b c h = omega arith

pub xor_assoc : (a b c : ℕ) → (a ⊕ b) ⊕ c ≡ a ⊕ (b ⊕ c)
xor_assoc a = bin_ind (λ (n : ℕ). (b c : ℕ) → (n ⊕ b) ⊕ c ≡ n ⊕ (b ⊕ c)) (λ b c. refl)
    (λ n ih b c. halves_eq _ _ (simp xor-half (ih (b / 2) (c / 2)))
    (xor-odd (n ⊕ b) c ∙ odd_l (n ⊕ b) n b c (xor-odd n b)
    ∙ ap (λ (x : ℕ). x % 2) (omega arith) ∙ sym (odd_l (b ⊕ c) b c n (xor-odd b c)) ∙ ap (λ (x : ℕ). x % 2) (omega arith) ∙ sym (xor-odd n (b ⊕ c)))) a

pub xor_cancel : (a b : ℕ) → a ⊕ (a ⊕ b) ≡ b
xor_cancel a b = sym (xor_assoc a a b) ∙ ap (λ (x : ℕ). x ⊕ b) (xor_self a)

pub xor_cancel_r : (a b : ℕ) → (b ⊕ a) ⊕ a ≡ b
xor_cancel_r a b = xor_assoc b a a ∙ ap (λ (x : ℕ). b ⊕ x) (xor_self a) ∙ xor_zero_r b

pub xor-eq : (a b : ℕ) → a ⊕ b ≡ 0 → a ≡ b
xor-eq a b e = sym (xor_cancel_r b a) ∙ ap (λ (x : ℕ). x ⊕ b) e

-- only 0 is twice itself
pub xor_fix : (a : ℕ) → a ⊕ a ≡ a → a ≡ 0
xor_fix a e = sym e ∙ xor_self a

pub xor-left_comm : (a b c : ℕ) → a ⊕ (b ⊕ c) ≡ b ⊕ (a ⊕ c)
xor-left_comm a b c = sym (xor_assoc a b c) ∙ ap (λ (x : ℕ). x ⊕ c) (xor_comm a b) ∙ xor_assoc b a c

-- both sums of four, sorted alike: (a ⊕ b) ⊕ (c ⊕ d) ≡ (a ⊕ c) ⊕ (b ⊕ d)
pub xor-four : (a b c d : ℕ) → (a ⊕ b) ⊕ (c ⊕ d) ≡ (a ⊕ c) ⊕ (b ⊕ d)
xor-four a b c d = xor_assoc a b (c ⊕ d) ∙ ap (λ (x : ℕ). a ⊕ x) (xor-left_comm b c d) ∙ sym (xor_assoc a c (b ⊕ d))

pub bit-lt : (w i : ℕ) → bit w i < 2
bit-lt w i = omega arith

pub bit_zeroth : (w : ℕ) → bit w 0 ≡ w % 2
bit_zeroth w = omega arith

pub bit_of_zero : (i : ℕ) → bit 0 i ≡ 0
bit_of_zero i = ap (λ (x : ℕ). x % 2) (zero-div (2 ^ i))

pub bit_xor : (a b i : ℕ) → bit (a ⊕ b) i ≡ (bit a i + bit b i) % 2
bit_xor a b i = ap (λ (x : ℕ). x % 2) (xor_shr a b i) ∙ xor-odd (a / 2 ^ i) (b / 2 ^ i) ∙ omega arith

pub and-half : (a b : ℕ) → bit_and a b / 2 ≡ bit_and (a / 2) (b / 2)
and-half a b = and_shr a b 1

pub and-odd : (a b : ℕ) → bit_and a b % 2 ≡ min (a % 2) (b % 2)
and-odd a b = omega (arith, and_step a b)

pub bit-half : (w i : ℕ) → bit w (suc i) ≡ bit (w / 2) i
bit-half w i = ap (λ (x : ℕ). w / 2 ^ x % 2) (sym (one-add i)) ∙ ap (λ (x : ℕ). x % 2) (sym (shr-shr w 1 i))

pub bit-pow : (q : ℕ) → bit (2 ^ q) q ≡ 1
bit-pow q = ap (λ (x : ℕ). x % 2) (div_self (pow_pos q))

pub pow-half : (q : ℕ) → 2 ^ suc q / 2 ≡ 2 ^ q
pow-half q = omega (arith, pow-suc 2 q)

pub pow_even : (q : ℕ) → 2 ^ suc q % 2 ≡ 0
pow_even q = omega (arith, pow-suc 2 q)

pub bit-pow-other : (q p : ℕ) → p ≢ q → bit (2 ^ q) p ≡ 0
bit-pow-other zero zero ne = absurd (ne refl)
bit-pow-other zero (suc p) ne = bit-half 1 p ∙ bit_of_zero p
bit-pow-other (suc q) zero ne = omega (arith, pow-suc 2 q)
bit-pow-other (suc q) (suc p) ne =
    bit-half (2 ^ suc q) p ∙ ap (λ (x : ℕ). bit x p) (pow-half q) ∙ bit-pow-other q p (λ e. ne (ap suc e))

pub half_lt : {w : ℕ} (n : ℕ) → w < 2 ^ suc n → w / 2 < 2 ^ n
half_lt {w} n h = omega (arith, pow-suc 2 n)

-- two words of n places with the same places are equal
pub ext : (n : ℕ) {a b : ℕ} → a < 2 ^ n → b < 2 ^ n → ((i : ℕ) → i < n → bit a i ≡ bit b i) → a ≡ b
ext zero ha hb h = omega arith
ext (suc n) {a} {b} ha hb h =
    halves_eq a b
    (ext n (half_lt n ha) (half_lt n hb) (λ i l. sym (bit-half a i) ∙ h (suc i) (omega arith) ∙ bit-half b i))
    (omega (arith, h 0 (omega arith)))
