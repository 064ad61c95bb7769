-- Laws of the sums of overlaps, weight by weight from the largest.
use mathlib.Core.Path.{◌≡◌, refl, sym, ap, ap₂, ◌∙◌}
use mathlib.Core.List.{List}
use Prim.Native.Nat.{ℕ, zero, suc, ◌+◌, ◌-◌, ◌*◌, ◌^◌, ◌≤◌, ◌<◌}
use native.Mathlib.Nat.{le_refl, le_trans, mul-add, mul-zero, pow-suc, mul-le-mul, suc-add, add-suc, suc-mul}
use native.Mathlib.Numerals.{add-one}
use native.Mathlib.Omega.{arith}
use lib.ListN.{get_or, set}
use lib.Pow.{pow_mono}
use Rattle.coding.specs.Lists.{zeros}
use Rattle.coding.specs.Dual.{sum_below, overlaps}
use Rattle.coding.proofs.SumLaws.{sum_same, sum-add}
use Rattle.weights.specs.Inner.Overlap.{earlier, part_sum, slots}
use Rattle.weights.proofs.WeightSlotLaws.{slots_at, slots_same, slots-below, earlier_at}

-- ---- one weight more

more : (s r : ℕ) → r < s → suc s - 1 - r ≡ suc (s - 1 - r)
more s r h = omega arith

last : (s : ℕ) → suc s - 1 - s ≡ 0
last s = omega arith

-- by Pascal's rule at a place where all the words have a 1
one_place : (c z i j : ℕ) → overlaps c z (suc i) j ≡ overlaps c z i j + earlier (overlaps (1 - c) z i) j
one_place c z i zero = omega arith
one_place c z i (suc j) = refl

sum-earlier : (f : ℕ → ℕ → ℕ) (s j : ℕ) → sum_below (λ r. earlier (f r) j) s ≡ earlier (λ i. sum_below (λ r. f r i) s) j
sum-earlier f s (suc j) = refl
sum-earlier f zero zero = refl
sum-earlier f (suc s) zero = omega (arith, sum-earlier f s zero)

times_earlier : (b : ℕ) (f : ℕ → ℕ) (j : ℕ) → b * earlier f j ≡ earlier (λ i. b * f i) j
times_earlier b f zero = mul-zero b
times_earlier b f (suc j) = refl

pub part_next : (c n : ℕ) (B : ℕ → ℕ) (s j : ℕ)
    → part_sum c n B (suc s) j ≡ part_sum c n B s j + earlier (part_sum (1 - c) n B s) j + B (n - s) * overlaps c s 0 j
part_next c n B s j =
    ap₂ ◌+◌ (ap (λ (x : ℕ). B (n - s) * overlaps c s x j) (last s))
    (sum_same _ (λ r. B (n - r) * overlaps c r (s - 1 - r) j + earlier (λ i. B (n - r) * overlaps (1 - c) r (s - 1 - r) i) j) s
    (λ r h. ap (λ (x : ℕ). B (n - r) * overlaps c r x j) (more s r h)
    ∙ ap (λ (x : ℕ). B (n - r) * x) (one_place c r (s - 1 - r) j)
    ∙ mul-add (B (n - r)) (overlaps c r (s - 1 - r) j) (earlier (overlaps (1 - c) r (s - 1 - r)) j)
    ∙ ap (λ (x : ℕ). B (n - r) * overlaps c r (s - 1 - r) j + x) (times_earlier (B (n - r)) (overlaps (1 - c) r (s - 1 - r)) j))
    ∙ sum-add (λ r. B (n - r) * overlaps c r (s - 1 - r) j) (λ r. earlier (λ i. B (n - r) * overlaps (1 - c) r (s - 1 - r) i) j) s
    ∙ ap (λ (x : ℕ). part_sum c n B s j + x) (sum-earlier (λ r i. B (n - r) * overlaps (1 - c) r (s - 1 - r) i) s j))
    ∙ omega arith

-- with a word of zeros nothing is shared
pub none_odd : (z j : ℕ) → overlaps 1 z 0 j ≡ 0
none_odd zero zero = refl
none_odd zero (suc j) = refl
none_odd (suc z) zero = none_odd z zero
none_odd (suc z) (suc j) = omega (arith, none_odd z (suc j), none_odd z j)

pub pascal : (z j : ℕ) → overlaps 0 (suc z) 0 j ≡ overlaps 0 z 0 j + earlier (overlaps 0 z 0) j
pascal z zero = omega arith
pascal z (suc j) = refl

-- ---- all weights

sum_front : (f : ℕ → ℕ) (m : ℕ) → sum_below f (suc m) ≡ f 0 + sum_below (λ i. f (suc i)) m
sum_front f zero = refl
sum_front f (suc m) = omega (arith, sum_front f m)

sum_reversed : (f : ℕ → ℕ) (m : ℕ) → sum_below f m ≡ sum_below (λ i. f (m - 1 - i)) m
sum_reversed f zero = refl
sum_reversed f (suc m) =
    sym (sum_front (λ i. f (suc m - 1 - i)) m
    ∙ ap₂ ◌+◌ (ap f (whole m)) (sum_same _ _ m (λ i h. ap f (less m i)) ∙ sym (sum_reversed f m)))
  where
    whole : (m : ℕ) → suc m - 1 - 0 ≡ m
    whole m = omega arith

    less : (m i : ℕ) → suc m - 1 - suc i ≡ m - 1 - i
    less m i = omega arith

pub part_end : (c n : ℕ) (B : ℕ → ℕ) (j : ℕ) → part_sum c n B (suc n) j ≡ sum_below (λ i. B i * overlaps c (n - i) i j) (suc n)
part_end c n B j =
    sum_same _ _ (suc n) (λ r h. sym (ap₂ (λ (x y : ℕ). B x * overlaps c y x j) (upto n r) (back n r h)
    ∙ ap (λ (x : ℕ). B (n - r) * overlaps c r x j) (same n r)))
    ∙ sym (sum_reversed (λ i. B i * overlaps c (n - i) i j) (suc n))
  where
    upto : (n r : ℕ) → suc n - 1 - r ≡ n - r
    upto n r = omega arith

    same : (n r : ℕ) → n - r ≡ suc n - 1 - r
    same n r = omega arith

    back : (n r : ℕ) → r < suc n → n - (suc n - 1 - r) ≡ r
    back n r h = omega arith

-- ---- nothing grows too large

twice : {a b : ℕ} → a ≡ suc b → 2 ^ a ≡ 2 ^ b + 2 ^ b
twice {a} {b} e = ap (λ (x : ℕ). 2 ^ x) e ∙ omega (arith, pow-suc 2 b)

overlaps-le : (c z i j : ℕ) → overlaps c z i j ≤ 2 ^ (z + i)
overlaps-le c zero zero zero = omega arith
overlaps-le c zero zero (suc j) = omega arith
overlaps-le c (suc z) zero zero = omega (arith, overlaps-le c z zero zero, twice (suc-add z zero))
overlaps-le c (suc z) zero (suc j) = omega (arith, overlaps-le c z zero (suc j), overlaps-le c z zero j, twice (suc-add z zero))
overlaps-le c z (suc i) zero = omega (arith, overlaps-le c z i zero, twice (add-suc z i))
overlaps-le c z (suc i) (suc j) = omega (arith, overlaps-le c z i (suc j), overlaps-le (1 - c) z i j, twice (add-suc z i))

sum-le : (f : ℕ → ℕ) (b m : ℕ) → ((i : ℕ) → i < m → f i ≤ b) → sum_below f m ≤ m * b
sum-le f b zero h = omega arith
sum-le f b (suc m) h = omega (arith, h m (le_refl (suc m)), sum-le f b m (λ i l. h i (omega arith)), suc-mul m b)

pub row_small : (s j : ℕ) → s ≤ 33 → overlaps 0 s 0 j ≤ 2 ^ 33
row_small s j h = le_trans (overlaps-le 0 s 0 j) (pow_mono {i = s + 0} {j = 33} (omega arith))

pub part_small : (c n : ℕ) (B : ℕ → ℕ) → ((i : ℕ) → B i ≤ 4096) → (s j : ℕ) → s ≤ 33 → part_sum c n B s j < 2 ^ 50
part_small c n B few s j h =
    let each : sum_below (λ r. B (n - r) * overlaps c r (s - 1 - r) j) s ≤ s * (4096 * 2 ^ 32) =
    sum-le _ (4096 * 2 ^ 32) s
    (λ r l. mul-le-mul (few (n - r)) (le_trans (overlaps-le c r (s - 1 - r) j) (pow_mono {i = r + (s - 1 - r)} {j = 32} (omega arith)))) in
    omega arith

-- ---- the loop: s weights have been added

pub record Running (n : ℕ) (B : ℕ → ℕ) (even odd all : List ℕ) (s : ℕ) : Type 0 where
  pub upto : s ≤ suc n
  pub evens : even ≡ slots (part_sum 0 n B s)
  pub odds : odd ≡ slots (part_sum 1 n B s)
  pub alls : all ≡ slots (overlaps 0 s 0)

pub running_start : (n : ℕ) (B : ℕ → ℕ) → Running n B (zeros 33) (zeros 33) (set (zeros 33) 0 1) 0
unfolding slots
running_start n B = record { upto = omega arith; evens = refl; odds = refl; alls = refl }

abbrev moved : List ℕ → List ℕ → List ℕ
moved a b = slots (λ j. get_or a j 0 + earlier (λ i. get_or b i 0) j)

moved_is : (f g : ℕ → ℕ) {a b : List ℕ} → a ≡ slots f → b ≡ slots g → moved a b ≡ slots (λ j. f j + earlier g j)
moved_is f g {a} {b} p q =
    ap₂ moved p q ∙ slots_same _ _ (λ j h. ap₂ ◌+◌ (slots_at f j h) (earlier_at g j h))

module _ (n : ℕ) (B : ℕ → ℕ) (few : (i : ℕ) → B i ≤ 4096) (places : n ≤ 32) {even odd all : List ℕ} {s : ℕ}
    (R : Running n B even odd all s) (h : s ≤ n) where
  part_fits : (c j : ℕ) → part_sum c n B s j < 2 ^ 50
  part_fits c j = part_small c n B few s j (omega arith)

  earlier_fits : (c j : ℕ) → earlier (part_sum c n B s) j < 2 ^ 50
  earlier_fits c zero = omega arith
  earlier_fits c (suc j) = part_fits c j

  pub even-small : (j : ℕ) → get_or even j 0 < 2 ^ 51
  even-small j = rw R.evens (slots-below (part_sum 0 n B s) (2 ^ 51) (λ i. omega (arith, part_fits 0 i)) j)

  pub odd-small : (j : ℕ) → get_or odd j 0 < 2 ^ 51
  odd-small j = rw R.odds (slots-below (part_sum 1 n B s) (2 ^ 51) (λ i. omega (arith, part_fits 1 i)) j)

  pub all-le : (j : ℕ) → get_or all j 0 ≤ 2 ^ 33
  all-le j =
      let l : get_or (slots (overlaps 0 s 0)) j 0 < 2 ^ 33 + 1 =
      slots-below (overlaps 0 s 0) (2 ^ 33 + 1) (λ i. omega (arith, row_small s i (omega arith))) j in
      rw R.alls (omega (arith, l))

  pub all_small : (j : ℕ) → get_or all j 0 < 2 ^ 51
  all_small j = omega (arith, all-le j)

  module _ {kept : List ℕ} (k : kept ≡ moved even odd) where
    kept_is : kept ≡ slots (λ j. part_sum 0 n B s j + earlier (part_sum 1 n B s) j)
    kept_is = k ∙ moved_is (part_sum 0 n B s) (part_sum 1 n B s) R.evens R.odds

    pub kept_small : (j : ℕ) → get_or kept j 0 < 2 ^ 51
    kept_small j =
        rw kept_is (slots-below (λ j. part_sum 0 n B s j + earlier (part_sum 1 n B s) j) (2 ^ 51) (λ i. omega (arith, part_fits 0 i, earlier_fits 1 i)) j)

    pub running_next : {even' odd' all' : List ℕ} → odd' ≡ moved odd even → even' ≡ slots (λ j. get_or kept j 0 + B (n - s) * get_or all j 0)
        → all' ≡ moved all all → Running n B even' odd' all' (s + 1)
    running_next {even'} {odd'} {all'} o e a = rw add-one (record {
      upto = omega arith;
      evens = e ∙ slots_same _ (part_sum 0 n B (suc s)) (λ j l.
          ap₂ (λ (x y : ℕ). x + B (n - s) * y) (ap (λ (x : List ℕ). get_or x j 0) kept_is ∙ slots_at _ j l)
          (ap (λ (x : List ℕ). get_or x j 0) R.alls ∙ slots_at _ j l)
          ∙ sym (part_next 0 n B s j));
      odds = o ∙ moved_is (part_sum 1 n B s) (part_sum 0 n B s) R.odds R.evens ∙ slots_same _ (part_sum 1 n B (suc s)) (λ j l. sym (part_next_odd j));
      alls = a ∙ moved_is (overlaps 0 s 0) (overlaps 0 s 0) R.alls R.alls ∙ slots_same _ (overlaps 0 (suc s) 0) (λ j l. sym (pascal s j));
    })
      where
        part_next_odd : (j : ℕ) → part_sum 1 n B (suc s) j ≡ part_sum 1 n B s j + earlier (part_sum 0 n B s) j
        part_next_odd j =
            part_next 1 n B s j ∙ ap (λ (x : ℕ). part_sum 1 n B s j + earlier (part_sum 0 n B s) j + B (n - s) * x) (none_odd s j)
            ∙ omega (arith, mul-zero (B (n - s)))

pub running_end : (n : ℕ) (B : ℕ → ℕ) {even odd all : List ℕ} {s : ℕ} → Running n B even odd all s → n < s
    → (even ≡ slots (part_sum 0 n B (suc n))) × (odd ≡ slots (part_sum 1 n B (suc n)))
running_end n B {s = s} R h =
    let e : s ≡ suc n = omega (arith, R.upto) in
    (R.evens ∙ ap (λ (x : ℕ). slots (part_sum 0 n B x)) e, R.odds ∙ ap (λ (x : ℕ). slots (part_sum 1 n B x)) e)
