-- Laws of counts: how many numbers below m pass a test, a one-to-one map carries counts over, and the counts of all values
-- add up to the number of arguments. Assumes nothing.
use mathlib.Core.Path.{◌≡◌, refl, sym, ap, ap₂, ◌∙◌}
use mathlib.Core.Bool.{Bool, true, false, not, cond, ◌&&◌}
use Prim.Native.Nat.{ℕ, zero, suc, ◌+◌, ◌≤◌, ◌<◌}
use native.Mathlib.Nat.{le_of_suc-le-suc, add-zero, add-suc, le_refl}
use native.Mathlib.Numerals.{add-one}
use native.Mathlib.Omega.{arith}
use lib.Dec.{eqb, eqb-zero-suc, eqb-suc-zero, eqb-suc-suc}
use borrow.Author.Tests.{eqb-true, eqb-false, ne_eqb}
use Rattle.coding.specs.Lists.{tabulate, total}
use Rattle.coding.specs.Weight.{count}
use Rattle.coding.proofs.SearchLaws.{true_false}

-- one more number adds one where it passes
pub count_step : (p : ℕ → Bool) (i : ℕ) → count p (i + 1) ≡ count p i + cond (p i) 1 0
count_step p i = rw add-one (omega arith)

-- tests that agree below m count alike
pub count_same : (p q : ℕ → Bool) (m : ℕ) → ((i : ℕ) → i < m → p i ≡ q i) → count p m ≡ count q m
count_same p q zero h = refl
count_same p q (suc m) h =
    ap₂ (λ (b : Bool) (c : ℕ). cond b 1 0 + c) (h m (le_refl (suc m))) (count_same p q m (λ i l. h i (omega arith)))

-- a count below a sum is the count below the first number and that of the numbers from there on
pub count_add : (p : ℕ → Bool) (a b : ℕ) → count p (a + b) ≡ count p a + count (λ i. p (a + i)) b
count_add p a zero = rw (add-zero a) (omega arith)
count_add p a (suc b) = rw add-suc (omega (arith, count_add p a b))

-- no more pass than there are
pub count-le : (p : ℕ → Bool) (m : ℕ) → count p m ≤ m
count-le p zero = le_refl 0
count-le p (suc m) = go (p m) (count-le p m)
  where
    go : (b : Bool) → count p m ≤ m → cond b 1 0 + count p m ≤ suc m
    go true l = omega arith
    go false l = omega arith

-- where none passes the count is 0
pub count_none : (p : ℕ → Bool) (m : ℕ) → ((i : ℕ) → i < m → p i ≡ false) → count p m ≡ 0
count_none p zero h = refl
count_none p (suc m) h = ap₂ (λ (b : Bool) (c : ℕ). cond b 1 0 + c) (h m (le_refl (suc m))) (count_none p m (λ i l. h i (omega arith)))

-- a positive count has a number that passes
pub count-found : (p : ℕ → Bool) (m : ℕ) → 1 ≤ count p m → (i : ℕ) × (i < m) × (p i ≡ true)
count-found p zero h = absurd (omega arith)
count-found p (suc m) h = go (p m) refl (count-found p m) h
  where
    go : (b : Bool) → p m ≡ b → (1 ≤ count p m → (i : ℕ) × (i < m) × (p i ≡ true)) → 1 ≤ cond b 1 0 + count p m
        → (i : ℕ) × (i < suc m) × (p i ≡ true)
    go true e f l = (m, le_refl (suc m), e)
    go false e f l = let (i, k, t) = f (omega arith) in (i, omega arith, t)

-- without the number w the count is less by one where w passes
pub count-without : (p : ℕ → Bool) (m w : ℕ) → w < m → count p m ≡ cond (p w) 1 0 + count (λ i. p i && not (eqb i w)) m
count-without p zero w h = absurd (omega arith)
count-without p (suc m) w h = go (eqb m w) refl (count-without p m w)
  where
    and_true : (b : Bool) → b ≡ b && true
    and_true true = refl
    and_true false = refl

    and_false : (b : Bool) → b && false ≡ false
    and_false true = refl
    and_false false = refl

    kept : (i : ℕ) → (i ≡ w → ⊥) → p i ≡ p i && not (eqb i w)
    kept i ne = rw (ne_eqb i w ne) (and_true (p i))

    go : (b : Bool) → eqb m w ≡ b → (w < m → count p m ≡ cond (p w) 1 0 + count (λ i. p i && not (eqb i w)) m)
        → cond (p m) 1 0 + count p m
        ≡ cond (p w) 1 0 + (cond (p m && not b) 1 0 + count (λ i. p i && not (eqb i w)) m)
    go true e f =
        let s : m ≡ w = eqb-true m w e in
        let c : count p m ≡ count (λ i. p i && not (eqb i w)) m =
        count_same p (λ i. p i && not (eqb i w)) m (λ i l. kept i (λ k. absurd (omega arith))) in
        rw (and_false, ap p s) (omega (arith, c))
    go false e f =
        let ne : m ≡ w → ⊥ = eqb-false m w e in
        rw (← and_true (p m)) (omega (arith, f (omega arith)))

-- where a number passes the count is not 0
pub count_some : (p : ℕ → Bool) (m i : ℕ) → i < m → p i ≡ true → 1 ≤ count p m
count_some p m i h e = omega (arith, rw e at (count-without p m i h))

-- a one-to-one map carries counts: q tells the values of f, and p counts as often on them as p after f on the arguments
pub count_image : (f : ℕ → ℕ) (M N : ℕ) → ((u : ℕ) → u < M → f u < N) → ((u v : ℕ) → u < M → v < M → f u ≡ f v → u ≡ v)
    → (q : ℕ → Bool) → ((w : ℕ) → w < N → q w ≡ true → (u : ℕ) × (u < M) × (f u ≡ w)) → ((u : ℕ) → u < M → q (f u) ≡ true)
    → (p : ℕ → Bool) → count (λ w. q w && p w) N ≡ count (λ u. p (f u)) M
count_image f zero N into one q has is p =
    count_none (λ w. q w && p w) N (λ w l. none (q w) (p w) (λ e. absurd (omega (arith, (has w l e).1))))
  where
    none : (b c : Bool) → (b ≡ true → ⊥) → b && c ≡ false
    none true c f = absurd (f refl)
    none false c f = refl
count_image f (suc M) N into one q has is p =
    count-without (λ w. q w && p w) N (f M) (into M (le_refl (suc M)))
    ∙ ap₂ (λ (b : Bool) (c : ℕ). cond (b && p (f M)) 1 0 + c) (is M (le_refl (suc M)))
    (count_same (λ w. (q w && p w) && not (eqb w (f M))) (λ w. (q w && not (eqb w (f M))) && p w) N
    (λ w l. swap (q w) (p w) (not (eqb w (f M))))
    ∙ count_image f M N (λ u l. into u (omega arith)) (λ u v k l. one u v (omega arith) (omega arith))
    (λ w. q w && not (eqb w (f M))) has' is' p)
  where
    swap : (a b c : Bool) → (a && b) && c ≡ (a && c) && b
    swap true true true = refl
    swap true true false = refl
    swap true false true = refl
    swap true false false = refl
    swap false b c = refl

    parts : (a b : Bool) → a && not b ≡ true → (a ≡ true) × (b ≡ false)
    parts true true e = absurd (true_false refl (sym e))
    parts true false e = (refl, refl)
    parts false b e = absurd (true_false refl (sym e))

    has' : (w : ℕ) → w < N → q w && not (eqb w (f M)) ≡ true → (u : ℕ) × (u < M) × (f u ≡ w)
    has' w l e =
        let (t, k) = parts (q w) (eqb w (f M)) e in
        let (u, h, s) = has w l t in
        let ne : u ≡ M → ⊥ = λ z. eqb-false w (f M) k (sym s ∙ ap f z) in
        (u, omega arith, s)

    is' : (u : ℕ) → u < M → q (f u) && not (eqb (f u) (f M)) ≡ true
    is' u l =
        let ne : f u ≡ f M → ⊥ = λ z. absurd (omega (arith, one u M (omega arith) (le_refl (suc M)) z)) in
        rw (is u (omega arith), ne_eqb (f u) (f M) ne)

-- ---- the counts of all values

-- the total of sums is the sum of the totals
total-add : (f g : ℕ → ℕ) (m : ℕ) → total (tabulate (λ i. f i + g i) m) ≡ total (tabulate f m) + total (tabulate g m)
total-add f g zero = refl
total-add f g (suc m) = omega (arith, total-add (λ i. f (suc i)) (λ i. g (suc i)) m)

-- zeros add up to 0
total-zero : (m : ℕ) → total (tabulate (λ i. 0) m) ≡ 0
total-zero zero = refl
total-zero (suc m) = omega (arith, total-zero m)

-- one value is met once
total-one : (m a : ℕ) → a < m → total (tabulate (λ j. cond (eqb a j) 1 0) m) ≡ 1
total-one zero a h = absurd (omega arith)
total-one (suc m) zero h = simp eqb-zero-suc (omega (arith, total-zero m))
total-one (suc m) (suc a) h = simp (eqb-suc-zero, eqb-suc-suc) (omega (arith, total-one m a (le_of_suc-le-suc h)))

-- the counts of the values of f add up to the number of arguments
pub count-total : (f : ℕ → ℕ) (n M : ℕ) → ((u : ℕ) → u < M → f u < n) → total (tabulate (λ j. count (λ u. eqb (f u) j) M) n) ≡ M
count-total f n zero h = total-zero n
count-total f n (suc M) h =
    total-add (λ j. cond (eqb (f M) j) 1 0) (λ j. count (λ u. eqb (f u) j) M) n
    ∙ ap₂ ◌+◌ (total-one n (f M) (h M (le_refl (suc M)))) (count-total f n M (λ u l. h u (omega arith)))
    ∙ omega arith

-- where every number passes, all are counted
pub count-all : (p : ℕ → Bool) (m : ℕ) → ((i : ℕ) → i < m → p i ≡ true) → count p m ≡ m
count-all p zero f = refl
count-all p (suc m) f = ap₂ (λ (b : Bool) (x : ℕ). cond b 1 0 + x) (f m (le_refl (suc m))) (count-all p m (λ i h. f i (omega arith))) ∙ omega arith
