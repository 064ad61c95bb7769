-- Laws of numbers side by side in lanes of five bits: sums and masks go lane by lane, and the lowest lane that reaches 16 is found by the
-- zeros below its highest bit.
use mathlib.Core.Path.{◌≡◌, refl, sym, ap, ap₂, ◌∙◌}
use mathlib.Core.List.{List, [], ◌∷◌}
use mathlib.Core.Bool.{Bool, true, false, cond}
use Prim.Native.Nat.{ℕ, zero, suc, ◌+◌, ◌*◌, ◌/◌, ◌%◌, ◌^◌, ◌≤◌, ◌<◌, min, suc-le-suc}
use native.Mathlib.Nat.{zero-mul, mul-zero, mul-one, add-mul, mul_assoc, pow-suc, zero-min}
use native.Mathlib.Decide.{dec_le}
use native.Mathlib.Omega.{arith}
use lib.Dec.{leb, lit<}
use lib.ListN.{length, get_or}
use lib.Bits.{bit_and, and_zero_l, and_block, and_high}
use lib.Count.{count_trailing_zeros, under, ones_step, trailing_of_zero}
use lib.Pow.{shr-shr}
use borrow.Author.Tests.{le-leb, lt-leb}
use Rattle.coding.specs.Lists.{first}
use Rattle.coding.specs.Word.{bit, weight}
use Rattle.coding.proofs.WordLaws.{and-half, and-odd, bit-lt}
use Rattle.coding.proofs.WeightLaws.{weight-zero}
use Rattle.golay.specs.Inner.Lanes.{lanes}

-- what holds of every entry of a list
abbrev pub Each : (ℕ → Type 0) → List ℕ → Type 0
Each Q P = (i : ℕ) → i < length P → Q (get_or P i 0)

each_tail : (Q : ℕ → Type 0) (p : ℕ) (P : List ℕ) → Each Q (p ∷ P) → Each Q P
each_tail Q p P h i l = h (suc i) (suc-le-suc l)

each_head : (Q : ℕ → Type 0) (p : ℕ) (P : List ℕ) → Each Q (p ∷ P) → Q p
each_head Q p P h = h 0 (omega arith)

pub lanes_same : (f g : ℕ → ℕ) (P : List ℕ) → Each (λ p. f p ≡ g p) P → lanes f P ≡ lanes g P
lanes_same f g [] h = refl
lanes_same f g (p ∷ P) h =
    ap₂ (λ (a b : ℕ). a + 32 * b) (each_head (λ p. f p ≡ g p) p P h) (lanes_same f g P (each_tail (λ p. f p ≡ g p) p P h))

pub lanes-add : (f g : ℕ → ℕ) (P : List ℕ) → lanes f P + lanes g P ≡ lanes (λ p. f p + g p) P
lanes-add f g [] = refl
lanes-add f g (p ∷ P) = omega (arith, lanes-add f g P)

-- a product goes lane by lane
pub lanes_times : (f : ℕ → ℕ) (c : ℕ) (P : List ℕ) → lanes f P * c ≡ lanes (λ p. f p * c) P
lanes_times f c [] = zero-mul c
lanes_times f c (p ∷ P) =
    add-mul (f p) (32 * lanes f P) c ∙ ap (λ (x : ℕ). f p * c + x) (mul_assoc 32 (lanes f P) c ∙ ap (λ (x : ℕ). 32 * x) (lanes_times f c P))

-- lanes that have not reached 32 stay apart
pub lanes-lt : (f : ℕ → ℕ) (P : List ℕ) → Each (λ p. f p < 32) P → lanes f P < 32 ^ length P
lanes-lt f [] h = lit< tt
lanes-lt f (p ∷ P) h =
    omega (arith, each_head (λ p. f p < 32) p P h, lanes-lt f P (each_tail (λ p. f p < 32) p P h), pow-suc 32 (length P))

pub lanes-and : (f g : ℕ → ℕ) (P : List ℕ) → Each (λ p. (f p < 32) × (g p < 32)) P
    → bit_and (lanes f P) (lanes g P) ≡ lanes (λ p. bit_and (f p) (g p)) P
lanes-and f g [] h = and_zero_l 0
lanes-and f g (p ∷ P) h =
    let (a, b) = each_head (λ p. (f p < 32) × (g p < 32)) p P h in
    ap₂ bit_and (block (f p) (lanes f P)) (block (g p) (lanes g P))
    ∙ and_block 5 (lanes f P) (lanes g P) (f p) (g p) a b
    ∙ ap (λ (x : ℕ). x * 2 ^ 5 + bit_and (f p) (g p)) (lanes-and f g P (each_tail (λ p. (f p < 32) × (g p < 32)) p P h))
    ∙ sym (block (bit_and (f p) (g p)) (lanes (λ p. bit_and (f p) (g p)) P))
  where
    block : (a b : ℕ) → a + 32 * b ≡ b * 2 ^ 5 + a
    block a b = omega arith

-- a lane below 32 has its highest bit exactly when it reaches 16
high_bit : (x : ℕ) → x < 32 → bit_and x 16 ≡ cond (leb 16 x) 16 0
high_bit x h = and_high x 1 4 ∙ go (dec_le 16 x)
  where
    go : Dec (16 ≤ x) → (x / 2 ^ 4 % 2 ^ 1) * 2 ^ 4 ≡ cond (leb 16 x) 16 0
    go (yes l) = let e : (x / 2 ^ 4 % 2 ^ 1) * 2 ^ 4 ≡ 16 = omega arith in e ∙ sym (simp (le-leb 16 x l) refl)
    go (no l) = let e : (x / 2 ^ 4 % 2 ^ 1) * 2 ^ 4 ≡ 0 = omega arith in e ∙ sym (simp (lt-leb 16 x (omega arith)) refl)

pub lanes_high : (f : ℕ → ℕ) (P : List ℕ) → Each (λ p. f p < 32) P
    → bit_and (lanes f P) (lanes (λ p. 16) P) ≡ lanes (λ p. cond (leb 16 (f p)) 16 0) P
lanes_high f P h =
    lanes-and f (λ p. 16) P (λ i l. (h i l, lit< tt))
    ∙ lanes_same (λ p. bit_and (f p) 16) (λ p. cond (leb 16 (f p)) 16 0) P (λ i l. high_bit (f (get_or P i 0)) (h i l))

-- ---- the zeros below the lowest one

below-even : (k m : ℕ) → count_trailing_zeros (suc k) (2 * m) ≡ suc (count_trailing_zeros k m)
unfolding count_trailing_zeros
below-even k m =
    let a : 2 * m % 2 ≡ 0 = omega arith in
    let b : 2 * m / 2 ≡ m = omega arith in
    ap₂ (λ (d n : ℕ). under d (count_trailing_zeros k n)) a b

below-odd : (k m : ℕ) → count_trailing_zeros (suc k) (1 + 2 * m) ≡ 0
unfolding count_trailing_zeros
below-odd k m =
    let a : (1 + 2 * m) % 2 ≡ 1 = omega arith in
    ap (λ (d : ℕ). under d (count_trailing_zeros k ((1 + 2 * m) / 2))) a

below-four : (k m : ℕ) → count_trailing_zeros (suc (suc (suc (suc k)))) (2 * (2 * (2 * (2 * m)))) ≡ suc (suc (suc (suc (count_trailing_zeros k m))))
below-four k m =
    below-even (suc (suc (suc k))) (2 * (2 * (2 * m)))
    ∙ ap suc (below-even (suc (suc k)) (2 * (2 * m)) ∙ ap suc (below-even (suc k) (2 * m) ∙ ap suc (below-even k m)))

-- the lowest lane holds 16, or 0
below_sixteen : (k r : ℕ) → count_trailing_zeros (suc (suc (suc (suc (suc k))))) (16 + 32 * r) ≡ 4
below_sixteen k r =
    let e : 16 + 32 * r ≡ 2 * (2 * (2 * (2 * (1 + 2 * r)))) = omega arith in
    let f : suc (suc (suc (suc 0))) ≡ 4 = refl in
    ap (count_trailing_zeros (suc (suc (suc (suc (suc k)))))) e ∙ below-four (suc k) (1 + 2 * r) ∙ ap (λ (x : ℕ). suc (suc (suc (suc x)))) (below-odd k r) ∙ f

below-zero : (k r : ℕ) → count_trailing_zeros (suc (suc (suc (suc (suc k))))) (0 + 32 * r) ≡ count_trailing_zeros k r + 5
below-zero k r =
    let e : 0 + 32 * r ≡ 2 * (2 * (2 * (2 * (2 * r)))) = omega arith in
    let f : suc (suc (suc (suc (suc (count_trailing_zeros k r))))) ≡ count_trailing_zeros k r + 5 = omega arith in
    ap (count_trailing_zeros (suc (suc (suc (suc (suc k)))))) e ∙ below-four (suc k) (2 * r) ∙ ap (λ (x : ℕ). suc (suc (suc (suc x)))) (below-even k r) ∙ f

-- the index of the lowest lane that holds 16
pub first_lane : (t : ℕ → Bool) (P : List ℕ)
    → count_trailing_zeros (5 * length P + 4) (lanes (λ p. cond (t p) 16 0) P) / 5 ≡ first (λ i. t (get_or P i 0)) (length P)
first_lane t [] = nothing
  where
    nothing : count_trailing_zeros 4 0 / 5 ≡ 0
    nothing = ap (λ (x : ℕ). x / 5) (trailing_of_zero 4)
first_lane t (p ∷ P) =
    ap (λ (k : ℕ). count_trailing_zeros k (cond (t p) 16 0 + 32 * lanes (λ p. cond (t p) 16 0) P) / 5) width ∙ go (t p) (first_lane t P)
  where
    width : 5 * suc (length P) + 4 ≡ suc (suc (suc (suc (suc (5 * length P + 4)))))
    width = omega arith

    next : (x : ℕ) → (x + 5) / 5 ≡ suc (x / 5)
    next x = omega arith

    go : (b : Bool) → count_trailing_zeros (5 * length P + 4) (lanes (λ p. cond (t p) 16 0) P) / 5 ≡ first (λ i. t (get_or P i 0)) (length P)
        → count_trailing_zeros (suc (suc (suc (suc (suc (5 * length P + 4)))))) (cond b 16 0 + 32 * lanes (λ p. cond (t p) 16 0) P) / 5
        ≡ cond b 0 (suc (first (λ i. t (get_or P i 0)) (length P)))
    go true ih = ap (λ (x : ℕ). x / 5) (below_sixteen (5 * length P + 4) (lanes (λ p. cond (t p) 16 0) P))
    go false ih =
        ap (λ (x : ℕ). x / 5) (below-zero (5 * length P + 4) (lanes (λ p. cond (t p) 16 0) P))
        ∙ next (count_trailing_zeros (5 * length P + 4) (lanes (λ p. cond (t p) 16 0) P)) ∙ ap suc ih

-- ---- places in common

-- one place more
pub overlap_step : (a b : ℕ) → weight (bit_and a b) ≡ min (a % 2) (b % 2) + weight (bit_and (a / 2) (b / 2))
overlap_step a b = ones_step (bit_and a b) ∙ ap₂ (λ (x y : ℕ). x + weight y) (and-odd a b) (and-half a b)

digit-min : (a b : ℕ) → a < 2 → b < 2 → min a b ≡ b * a
digit-min zero b h k = zero-min b ∙ sym (mul-zero b)
digit-min (suc zero) b h k = let e : min 1 b ≡ b = omega arith in e ∙ sym (mul-one b)
digit-min (suc (suc a)) b h k = absurd (omega arith)

pub overlap_next : (j m : ℕ) (P : List ℕ)
    → lanes (λ p. weight (bit_and m (p / 2 ^ j))) P ≡ lanes (λ p. bit p j) P * (m % 2) + lanes (λ p. weight (bit_and (m / 2) (p / 2 ^ (j + 1)))) P
overlap_next j m P =
    lanes_same (λ p. weight (bit_and m (p / 2 ^ j))) (λ p. bit p j * (m % 2) + weight (bit_and (m / 2) (p / 2 ^ (j + 1)))) P (λ i l. place (get_or P i 0))
    ∙ sym (lanes-add (λ p. bit p j * (m % 2)) (λ p. weight (bit_and (m / 2) (p / 2 ^ (j + 1)))) P)
    ∙ ap (λ (x : ℕ). x + lanes (λ p. weight (bit_and (m / 2) (p / 2 ^ (j + 1)))) P) (sym (lanes_times (λ p. bit p j) (m % 2) P))
  where
    place : (p : ℕ) → weight (bit_and m (p / 2 ^ j)) ≡ bit p j * (m % 2) + weight (bit_and (m / 2) (p / 2 ^ (j + 1)))
    place p =
        overlap_step m (p / 2 ^ j)
        ∙ ap₂ (λ (x y : ℕ). x + weight (bit_and (m / 2) y)) (digit-min (m % 2) (bit p j) (omega arith) (bit-lt p j)) (shr-shr p j 1)

pub overlap_none : (P : List ℕ) (j : ℕ) → lanes (λ p. weight (bit_and 0 (p / 2 ^ j))) P ≡ 0
overlap_none [] j = refl
overlap_none (p ∷ P) j =
    ap₂ (λ (x y : ℕ). x + 32 * y) (ap weight (and_zero_l (p / 2 ^ j)) ∙ weight-zero) (overlap_none P j)
