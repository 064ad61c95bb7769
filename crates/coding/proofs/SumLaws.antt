-- Laws of sums: termwise, exchanged with counts, and gathered by value. Assumes nothing.
use mathlib.Core.Path.{◌≡◌, refl, sym, ap, ap₂, ◌∙◌}
use mathlib.Core.Bool.{Bool, true, false, cond, ◌&&◌}
use Prim.Native.Nat.{ℕ, zero, suc, ◌+◌, ◌*◌, ◌<◌}
use native.Mathlib.Nat.{le_refl, zero-mul, add-mul, mul-add, mul-zero}
use native.Mathlib.Omega.{arith}
use lib.Dec.{eqb}
use borrow.Author.Tests.{eqb-true, eqb-false, ne_eqb}
use Rattle.coding.specs.Weight.{count}
use Rattle.coding.specs.Dual.{sum_below}

-- sums of equal terms
pub sum_same : (f g : ℕ → ℕ) (m : ℕ) → ((i : ℕ) → i < m → f i ≡ g i) → sum_below f m ≡ sum_below g m
sum_same f g zero h = refl
sum_same f g (suc m) h = ap₂ ◌+◌ (h m (le_refl (suc m))) (sum_same f g m (λ i l. h i (omega arith)))

pub sum-add : (f g : ℕ → ℕ) (m : ℕ) → sum_below (λ i. f i + g i) m ≡ sum_below f m + sum_below g m
sum-add f g zero = refl
sum-add f g (suc m) = omega (arith, sum-add f g m)

pub sum_none : (f : ℕ → ℕ) (m : ℕ) → ((i : ℕ) → i < m → f i ≡ 0) → sum_below f m ≡ 0
sum_none f zero h = refl
sum_none f (suc m) h = omega (arith, h m (le_refl (suc m)), sum_none f m (λ i l. h i (omega arith)))

-- a count is a sum of ones
pub count-sum : (p : ℕ → Bool) (m : ℕ) → count p m ≡ sum_below (λ i. cond (p i) 1 0) m
count-sum p zero = refl
count-sum p (suc m) = ap (λ (x : ℕ). cond (p m) 1 0 + x) (count-sum p m)

-- a number for each that passes
pub sum-count : (a : ℕ) (p : ℕ → Bool) (m : ℕ) → sum_below (λ i. cond (p i) a 0) m ≡ a * count p m
sum-count a p zero = sym (mul-zero a)
sum-count a p (suc m) = ap₂ ◌+◌ (go (p m)) (sum-count a p m) ∙ sym (mul-add a (cond (p m) 1 0) (count p m))
  where
    go : (b : Bool) → cond b a 0 ≡ a * cond b 1 0
    go true = omega arith
    go false = sym (mul-zero a)

-- pairs are counted by either part
pub sum_swap : (q : ℕ → Bool) (r : ℕ → ℕ → Bool) (N M : ℕ)
    → sum_below (λ x. cond (q x) (count (r x) M) 0) N ≡ sum_below (λ v. count (λ x. q x && r x v) N) M
sum_swap q r zero M = sym (sum_none (λ v. 0) M (λ i l. refl))
sum_swap q r (suc N) M =
    ap₂ ◌+◌ (go (q N)) (sum_swap q r N M) ∙ sym (sum-add (λ v. cond (q N && r N v) 1 0) (λ v. count (λ x. q x && r x v) N) M)
  where
    go : (b : Bool) → cond b (count (r N) M) 0 ≡ sum_below (λ v. cond (b && r N v) 1 0) M
    go true = count-sum (r N) M
    go false = sym (sum_none (λ v. 0) M (λ i l. refl))

-- one value is met once
sum_one : (g : ℕ → ℕ) (N a : ℕ) → a < N → sum_below (λ i. cond (eqb a i) 1 0 * g i) N ≡ g a
sum_one g zero a h = absurd (omega arith)
sum_one g (suc N) a h = go (eqb a N) refl (sum_one g N a)
  where
    go : (b : Bool) → eqb a N ≡ b → (a < N → sum_below (λ i. cond (eqb a i) 1 0 * g i) N ≡ g a)
        → cond b 1 0 * g N + sum_below (λ i. cond (eqb a i) 1 0 * g i) N ≡ g a
    go true e ih =
        let s : a ≡ N = eqb-true a N e in
        let none : sum_below (λ i. cond (eqb a i) 1 0 * g i) N ≡ 0 =
        sum_none _ N (λ i l. ap (λ (b : Bool). cond b 1 0 * g i) (ne_eqb a i (λ k. absurd (omega arith))) ∙ zero-mul (g i)) in
        omega (arith, ap g s)
    go false e ih =
        let ne : a ≡ N → ⊥ = eqb-false a N e in
        omega (arith, ih (omega arith), zero-mul (g N))

-- a sum over arguments, gathered by the values of f
pub sum_by_value : (f g : ℕ → ℕ) (N M : ℕ) → ((v : ℕ) → v < M → f v < N)
    → sum_below (λ v. g (f v)) M ≡ sum_below (λ i. count (λ v. eqb (f v) i) M * g i) N
sum_by_value f g N zero h = sym (sum_none (λ i. 0 * g i) N (λ i l. zero-mul (g i)))
sum_by_value f g N (suc M) h =
    ap₂ ◌+◌ (sym (sum_one g N (f M) (h M (le_refl (suc M))))) (sum_by_value f g N M (λ v l. h v (omega arith)))
    ∙ sym (sum-add (λ i. cond (eqb (f M) i) 1 0 * g i) (λ i. count (λ v. eqb (f v) i) M * g i) N)
    ∙ sum_same _ _ N (λ i l. sym (add-mul (cond (eqb (f M) i) 1 0) (count (λ v. eqb (f v) i) M) (g i)))
