-- Laws of overlaps: how many words of a weight share an even or an odd number of places with a word is known by that word's weight
-- alone, and Pascal's rule gives it. Assumes nothing.
use mathlib.Core.Path.{◌≡◌, refl, sym, ap, ap₂, ◌∙◌}
use mathlib.Core.Bool.{Bool, true, cond, ◌&&◌}
use Prim.Native.Nat.{ℕ, zero, suc, ◌+◌, ◌-◌, ◌*◌, ◌/◌, ◌%◌, ◌^◌, ◌<◌, min}
use native.Mathlib.Nat.{pow-suc}
use native.Mathlib.Omega.{arith}
use lib.Dec.{eqb, eqb-zero-suc, eqb-suc-zero, eqb-suc-suc}
use lib.Count.{ones_step, ones-le}
use Rattle.coding.specs.Word.{weight, parity}
use Rattle.coding.specs.Weight.{count}
use Rattle.coding.specs.Dual.{sharing, overlaps}
use Rattle.coding.proofs.CountLaws.{count_same, count_none}
use Rattle.coding.proofs.WordLaws.{half_lt}
use Rattle.coding.proofs.WeightLaws.{weight-zero, parity-lt, parity_step, parity-zero}

-- ---- counts by the lowest place

-- the even numbers, then the odd ones
count_halves : (p : ℕ → Bool) (m : ℕ) → count p (2 * m) ≡ count (λ x. p (2 * x)) m + count (λ x. p (suc (2 * x))) m
count_halves p zero = refl
count_halves p (suc m) =
    let e : 2 * suc m ≡ suc (suc (2 * m)) = omega arith in
    rw e (omega (arith, count_halves p m))

double-half : (x : ℕ) → 2 * x / 2 ≡ x
double-half x = omega arith

double-even : (x : ℕ) → 2 * x % 2 ≡ 0
double-even x = omega arith

odd-half : (x : ℕ) → suc (2 * x) / 2 ≡ x
odd-half x = omega arith

odd-odd : (x : ℕ) → suc (2 * x) % 2 ≡ 1
odd-odd x = omega arith

weight-double : (x : ℕ) → weight (2 * x) ≡ weight x
weight-double x = ones_step (2 * x) ∙ ap₂ (λ (a b : ℕ). a + weight b) (double-even x) (double-half x) ∙ omega arith

weight-odd : (x : ℕ) → weight (suc (2 * x)) ≡ suc (weight x)
weight-odd x = ones_step (suc (2 * x)) ∙ ap₂ (λ (a b : ℕ). a + weight b) (odd-odd x) (odd-half x) ∙ omega arith

parity-double : (x y : ℕ) → parity (2 * x) y ≡ parity x (y / 2)
parity-double x y =
    parity_step (2 * x) y ∙ ap₂ (λ (a b : ℕ). (min a (y % 2) + parity b (y / 2)) % 2) (double-even x) (double-half x)
    ∙ omega (arith, parity-lt x (y / 2))

parity-odd : (x y : ℕ) → parity (suc (2 * x)) y ≡ (min 1 (y % 2) + parity x (y / 2)) % 2
parity-odd x y =
    parity_step (suc (2 * x)) y ∙ ap₂ (λ (a b : ℕ). (min a (y % 2) + parity b (y / 2)) % 2) (odd-odd x) (odd-half x)

-- the parity that the other places must have, where this place adds d
abbrev pub turned : ℕ → ℕ → ℕ
turned c zero = c
turned c (suc d) = 1 - c

flip : (c p : ℕ) → c < 2 → p < 2 → eqb ((1 + p) % 2) c ≡ eqb p (1 - c)
flip zero zero hc hp = refl
flip zero (suc zero) hc hp = refl
flip zero (suc (suc p)) hc hp = absurd (omega arith)
flip (suc zero) zero hc hp = refl
flip (suc zero) (suc zero) hc hp = refl
flip (suc zero) (suc (suc p)) hc hp = absurd (omega arith)
flip (suc (suc c)) p hc hp = absurd (omega arith)

turn : (c d p : ℕ) → c < 2 → d < 2 → p < 2 → eqb ((min 1 d + p) % 2) c ≡ eqb p (turned c d)
turn c zero p hc hd hp = let e : (0 + p) % 2 ≡ p = omega arith in ap (λ (x : ℕ). eqb x c) e
turn c (suc zero) p hc hd hp = flip c p hc hp
turn c (suc (suc d)) p hc hd hp = absurd (omega arith)

-- words by their lowest place: those without it, and those with it
pub parity_halves : (q : ℕ → Bool) (c n y : ℕ) → c < 2 → count (λ x. q x && eqb (parity x y) c) (2 ^ suc n)
    ≡ count (λ x. q (2 * x) && eqb (parity x (y / 2)) c) (2 ^ n)
    + count (λ x. q (suc (2 * x)) && eqb (parity x (y / 2)) (turned c (y % 2))) (2 ^ n)
parity_halves q c n y h =
    let e : 2 ^ suc n ≡ 2 * 2 ^ n = omega (arith, pow-suc 2 n) in
    ap (count (λ x. q x && eqb (parity x y) c)) e ∙ count_halves (λ x. q x && eqb (parity x y) c) (2 ^ n)
    ∙ ap₂ ◌+◌
    (count_same _ _ (2 ^ n) (λ x l. ap (λ (d : ℕ). q (2 * x) && eqb d c) (parity-double x y)))
    (count_same _ _ (2 ^ n) (λ x l. ap (λ (b : Bool). q (suc (2 * x)) && b)
    (ap (λ (d : ℕ). eqb d c) (parity-odd x y) ∙ turn c (y % 2) (parity x (y / 2)) h (omega arith) (parity-lt x (y / 2)))))

-- ---- Pascal's rule at a place where the word has a 0

overlaps_none : (c z i : ℕ) → overlaps c (suc z) i zero ≡ overlaps c z i zero
overlaps_none c z zero = refl
overlaps_none c z (suc i) = overlaps_none c z i

overlaps-zero : (c z i j : ℕ) → overlaps c (suc z) i (suc j) ≡ overlaps c z i (suc j) + overlaps c z i j
overlaps-zero c z zero j = refl
overlaps-zero c z (suc i) zero = omega (arith, overlaps-zero c z i zero, overlaps_none (1 - c) z i)
overlaps-zero c z (suc i) (suc j) = omega (arith, overlaps-zero c z i (suc j), overlaps-zero (1 - c) z i j)

-- ---- both counts agree

-- by the lowest place: no word of weight 0 has it
sharing_none : (c n y : ℕ) → c < 2 → sharing c (suc n) zero y ≡ sharing c n zero (y / 2)
unfolding sharing
sharing_none c n y h =
    parity_halves (λ x. eqb (weight x) 0) c n y h
    ∙ ap₂ ◌+◌
    (count_same _ _ (2 ^ n) (λ x l. ap (λ (w : ℕ). eqb w 0 && eqb (parity x (y / 2)) c) (weight-double x)))
    (count_none _ (2 ^ n) (λ x l. ap (λ (b : Bool). b && eqb (parity x (y / 2)) (turned c (y % 2)))
    (ap (λ (w : ℕ). eqb w 0) (weight-odd x) ∙ eqb-suc-zero (weight x))))
    ∙ omega arith

sharing-suc : (c n j y : ℕ) → c < 2 → sharing c (suc n) (suc j) y ≡ sharing c n (suc j) (y / 2) + sharing (turned c (y % 2)) n j (y / 2)
unfolding sharing
sharing-suc c n j y h =
    parity_halves (λ x. eqb (weight x) (suc j)) c n y h
    ∙ ap₂ ◌+◌
    (count_same _ _ (2 ^ n) (λ x l. ap (λ (w : ℕ). eqb w (suc j) && eqb (parity x (y / 2)) c) (weight-double x)))
    (count_same _ _ (2 ^ n) (λ x l. ap (λ (b : Bool). b && eqb (parity x (y / 2)) (turned c (y % 2)))
    (ap (λ (w : ℕ). eqb w (suc j)) (weight-odd x) ∙ eqb-suc-suc (weight x) j)))

-- a word of no places
sharing_start : (c j : ℕ) → c < 2 → sharing c zero j 0 ≡ overlaps c zero zero j
unfolding sharing
sharing_start c j h =
    ap₂ (λ (w p : ℕ). cond (eqb w j && eqb p c) 1 0 + 0) weight-zero (parity-zero 0) ∙ go c j h
  where
    go : (c j : ℕ) → c < 2 → cond (eqb 0 j && eqb 0 c) 1 0 + 0 ≡ overlaps c zero zero j
    go zero zero h = refl
    go (suc zero) zero h = refl
    go (suc (suc c)) zero h = absurd (omega arith)
    go zero (suc j) h = ap (λ (b : Bool). cond (b && true) 1 0 + 0) (eqb-zero-suc j)
    go (suc c) (suc j) h = ap (λ (b : Bool). cond (b && eqb 0 (suc c)) 1 0 + 0) (eqb-zero-suc j)

module _ (n y : ℕ) (below : y < 2 ^ suc n)
    (ih : (c j z i : ℕ) → c < 2 → z + i ≡ n → weight (y / 2) ≡ i → sharing c n j (y / 2) ≡ overlaps c z i j) where
  -- the lowest place of the word is a 0
  at_zero : y % 2 ≡ 0 → (c j z i : ℕ) → c < 2 → z + i ≡ suc n → weight y ≡ i → sharing c (suc n) j y ≡ overlaps c z i j
  at_zero d c j zero i hc s w = absurd (omega (arith, ones_step y, ones-le n (y / 2) (half_lt n below)))
  at_zero d c zero (suc z) i hc s w =
      sharing_none c n y hc ∙ ih c zero z i hc (omega arith) (omega (arith, ones_step y)) ∙ sym (overlaps_none c z i)
  at_zero d c (suc j) (suc z) i hc s w =
      let v : weight (y / 2) ≡ i = omega (arith, ones_step y) in
      let t : z + i ≡ n = omega arith in
      sharing-suc c n j y hc
      ∙ ap₂ ◌+◌ (ih c (suc j) z i hc t v) (ap (λ (x : ℕ). sharing (turned c x) n j (y / 2)) d ∙ ih c j z i hc t v)
      ∙ sym (overlaps-zero c z i j)

  -- it is a 1
  at_one : y % 2 ≡ 1 → (c j z i : ℕ) → c < 2 → z + i ≡ suc n → weight y ≡ i → sharing c (suc n) j y ≡ overlaps c z i j
  at_one d c j z zero hc s w = absurd (omega (arith, ones_step y))
  at_one d c zero z (suc i) hc s w = sharing_none c n y hc ∙ ih c zero z i hc (omega arith) (omega (arith, ones_step y))
  at_one d c (suc j) z (suc i) hc s w =
      let v : weight (y / 2) ≡ i = omega (arith, ones_step y) in
      let t : z + i ≡ n = omega arith in
      sharing-suc c n j y hc
      ∙ ap₂ ◌+◌ (ih c (suc j) z i hc t v) (ap (λ (x : ℕ). sharing (turned c x) n j (y / 2)) d ∙ ih (1 - c) j z i (omega arith) t v)

-- of the words of n places of weight j, as many have parity c with a word of i ones and z zeros as Pascal's rule says
pub sharing-overlaps : (n y : ℕ) → y < 2 ^ n → (c j z i : ℕ) → c < 2 → z + i ≡ n → weight y ≡ i → sharing c n j y ≡ overlaps c z i j
sharing-overlaps zero y h c j zero zero hc s w = let e : y ≡ 0 = omega arith in ap (sharing c zero j) e ∙ sharing_start c j hc
sharing-overlaps zero y h c j zero (suc i) hc s w = absurd (omega arith)
sharing-overlaps zero y h c j (suc z) i hc s w = absurd (omega arith)
sharing-overlaps (suc n) y h c j z i hc s w = go (y % 2) refl (omega arith) (sharing-overlaps n (y / 2) (half_lt n h))
  where
    go : (d : ℕ) → y % 2 ≡ d → d < 2
        → ((c j z i : ℕ) → c < 2 → z + i ≡ n → weight (y / 2) ≡ i → sharing c n j (y / 2) ≡ overlaps c z i j)
        → sharing c (suc n) j y ≡ overlaps c z i j
    go zero e l ih = at_zero n y h ih e c j z i hc s w
    go (suc zero) e l ih = at_one n y h ih e c j z i hc s w
    go (suc (suc d)) e l ih = absurd (omega arith)
