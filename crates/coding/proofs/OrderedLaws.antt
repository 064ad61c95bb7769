-- Laws of the order as a list: each word of n places once, by rising weight and of equal weight by rising number; and how many they
-- are. Assumes nothing.
use mathlib.Core.Path.{◌≡◌, refl, sym, ap, ◌∙◌}
use mathlib.Core.Logic.{inl, inr}
use mathlib.Core.List.{List, [], ◌∷◌, ◌++◌, map}
use mathlib.Core.Option.{Option, none, some}
use mathlib.Core.Bool.{Bool, true, false}
use Prim.Native.Nat.{ℕ, zero, suc, ◌+◌, ◌^◌, ◌≤◌, ◌<◌}
use native.Mathlib.Nat.{pow-suc}
use native.Mathlib.Decide.{dec_lt}
use native.Mathlib.Omega.{arith}
use lib.Dec.{eqb, eqb→eq, eqb_refl}
use lib.ListN.{length, get_or, length-append, length-map}
use lib.Pow.{pow_pos}
use Rattle.coding.specs.Word.{weight}
use Rattle.coding.specs.Order.{words, order}
use Rattle.coding.specs.Tries.{Before, IsOrder}
use Rattle.coding.proofs.OrderLaws.{first_in, pick_first, InOrder, first-lightest}
use Rattle.coding.proofs.BuildLaws.{All, all_append, all_map, all_more, Weighs, words_are, order_light, order_below}

-- ---- lists in which each entry stands in a relation to every later one

abbrev Sorted : (ℕ → ℕ → Type 0) → List ℕ → Type 0
Sorted R [] = Unit {0}
Sorted R (w ∷ ws) = All (R w) ws × Sorted R ws

all_at : (P : ℕ → Type 0) (ws : List ℕ) → All P ws → (i : ℕ) → i < length ws → P (get_or ws i 0)
all_at P [] f i h = absurd (omega arith)
all_at P (w ∷ ws) (p, f) zero h = p
all_at P (w ∷ ws) (p, f) (suc i) h = all_at P ws f i (omega arith)

sorted_at : (R : ℕ → ℕ → Type 0) (ws : List ℕ) → Sorted R ws → (i j : ℕ) → i < j → j < length ws → R (get_or ws i 0) (get_or ws j 0)
sorted_at R [] f i j h l = absurd (omega arith)
sorted_at R (w ∷ ws) (a, f) i zero h l = absurd (omega arith)
sorted_at R (w ∷ ws) (a, f) zero (suc j) h l = all_at (R w) ws a j (omega arith)
sorted_at R (w ∷ ws) (a, f) (suc i) (suc j) h l = sorted_at R ws f i j (omega arith) (omega arith)

sorted-append : (R : ℕ → ℕ → Type 0) (xs ys : List ℕ) → Sorted R xs → Sorted R ys → All (λ x. All (R x) ys) xs → Sorted R (xs ++ ys)
sorted-append R [] ys f g h = g
sorted-append R (x ∷ xs) ys (a, f) g (b, h) = (all_append (R x) xs ys a b, sorted-append R xs ys f g h)

sorted-map : (R S : ℕ → ℕ → Type 0) (k : ℕ → ℕ) → ((u v : ℕ) → R u v → S (k u) (k v)) → (ws : List ℕ) → Sorted R ws → Sorted S (map k ws)
sorted-map R S k c [] f = tt
sorted-map R S k c (w ∷ ws) (a, f) = (all_map (R w) (S (k w)) k (c w) ws a, sorted-map R S k c ws f)

-- ---- the order rises

words-sorted : (m t : ℕ) → Sorted ◌<◌ (words m t)
words-sorted m zero = (tt, tt)
words-sorted zero (suc t) = tt
words-sorted (suc m) (suc t) =
    sorted-append ◌<◌ (words m (suc t)) high (words-sorted m (suc t))
    (sorted-map ◌<◌ ◌<◌ (λ w. 2 ^ m + w) (λ u v h. omega arith) (words m t) (words-sorted m t))
    (all_more (Weighs m (suc t)) (λ x. All (λ y. x < y) high)
    (λ x h. all_map (Weighs m t) (λ y. x < y) (λ w. 2 ^ m + w) (λ w _. omega (arith, h.0)) (words m t) (words_are m t))
    (words m (suc t)) (words_are m (suc t)))
  where
    high : List ℕ
    high = map (λ w. 2 ^ m + w) (words m t)

-- of words of one weight the smaller number comes before
sorted_weigh : (m t : ℕ) (ws : List ℕ) → All (Weighs m t) ws → Sorted ◌<◌ ws → Sorted Before ws
sorted_weigh m t [] a f = tt
sorted_weigh m t (w ∷ ws) (e, a) (b, f) = (all ws a b, sorted_weigh m t ws a f)
  where
    all : (vs : List ℕ) → All (Weighs m t) vs → All (λ v. w < v) vs → All (Before w) vs
    all [] x y = tt
    all (v ∷ vs) (d, x) (h, y) = (inr (e.1 ∙ sym d.1, h), all vs x y)

order-sorted : (n t : ℕ) → Sorted Before (order n t)
order-sorted n zero = tt
order-sorted n (suc t) =
    sorted-append Before (order n t) (words n t) (order-sorted n t) (sorted_weigh n t (words n t) (words_are n t) (words-sorted n t))
    (all_more (λ w. weight w < t) (λ x. All (Before x) (words n t))
    (λ x h. all_more (Weighs n t) (Before x) (λ y e. inl (omega (arith, e.1))) (words n t) (words_are n t)) (order n t) (order_light n t))

-- no word comes before itself
before-other : (u v : ℕ) → Before u v → u ≡ v → ⊥
before-other u v (inl h) e = omega (arith, ap weight e)
before-other u v (inr h) e = omega (arith, h.1)

-- what is found stands in the list
abbrev Stands : List ℕ → Option ℕ → Type 0
Stands ws none = Unit {0}
Stands ws (some b) = (i : ℕ) × (i < length ws) × (get_or ws i 0 ≡ b)

first-stands : (p : ℕ → Bool) (ws : List ℕ) → Stands ws (first_in p ws)
first-stands p [] = tt
first-stands p (w ∷ ws) = go (p w) (first_in p ws) (first-stands p ws)
  where
    go : (d : Bool) (o : Option ℕ) → Stands ws o → Stands (w ∷ ws) (pick_first d w o)
    go true o s = (0, omega arith, refl)
    go false none s = tt
    go false (some b) (i, h, e) = (suc i, omega arith, e)

pub order_is : (n t : ℕ) → IsOrder n t (order n t)
order_is n t = record {
  within = λ i h. (all_at (λ w. w < 2 ^ n) ws (order_below n t) i h, all_at (λ w. weight w < t) ws (order_light n t) i h);
  each = λ v h l. found v h l (first_in (λ w. eqb w v) ws) (first-lightest n t (λ w. eqb w v)) (first-stands (λ w. eqb w v) ws);
  rising = rising;
  different = λ i j h l e. one i j h l e (dec_lt i j) (dec_lt j i);
}
  where
    ws : List ℕ
    ws = order n t

    found : (v : ℕ) → v < 2 ^ n → weight v < t → (o : Option ℕ) → InOrder (λ w. eqb w v) n t o → Stands ws o
        → (i : ℕ) × (i < length ws) × (get_or ws i 0 ≡ v)
    found v h l none f s = absurd (f v h l (eqb_refl v))
    found v h l (some b) f (i, k, e) = (i, k, e ∙ eqb→eq b v f.0.passes)

    rising : (i j : ℕ) → i < j → j < length ws → Before (get_or ws i 0) (get_or ws j 0)
    rising = sorted_at Before ws (order-sorted n t)

    one : (i j : ℕ) → i < length ws → j < length ws → get_or ws i 0 ≡ get_or ws j 0 → Dec (i < j) → Dec (j < i) → i ≡ j
    one i j h l e (yes k) d = absurd (before-other (get_or ws i 0) (get_or ws j 0) (rising i j k l) e)
    one i j h l e (no k) (yes d) = absurd (before-other (get_or ws j 0) (get_or ws i 0) (rising j i d h) (sym e))
    one i j h l e (no k) (no d) = omega arith

-- ---- how many words there are

-- without the highest place, and with it
words_parts : (m t : ℕ) → length (words (suc m) (suc t)) ≡ length (words m (suc t)) + length (words m t)
words_parts m t =
    length-append (words m (suc t)) (map (λ w. 2 ^ m + w) (words m t))
    ∙ ap (λ (x : ℕ). length (words m (suc t)) + x) (length-map (words m t) (λ w. 2 ^ m + w))

pub words_count : (m t : ℕ) → length (words m t) ≤ 2 ^ m
words_count m zero = pow_pos m
words_count zero (suc t) = omega arith
words_count (suc m) (suc t) = omega (arith, words_parts m t, words_count m (suc t), words_count m t, pow-suc 2 m)

order_more : (n t : ℕ) → length (order n (suc t)) ≡ length (order n t) + length (words n t)
order_more n t = length-append (order n t) (words n t)

order_parts : (n t : ℕ) → length (order (suc n) (suc t)) ≡ length (order n (suc t)) + length (order n t)
order_parts n zero = refl
order_parts n (suc t) = omega (arith, order_more (suc n) (suc t), words_parts n t, order_parts n t, order_more n (suc t), order_more n t)

-- no more than there are numbers of n places
pub order-count : (n t : ℕ) → length (order n t) ≤ 2 ^ n
order-count n zero = omega arith
order-count zero (suc zero) = omega arith
order-count zero (suc (suc t)) =
    let e : length (words 0 (suc t)) ≡ 0 = refl in
    omega (arith, order_more 0 (suc t), order-count 0 (suc t), e)
order-count (suc n) (suc t) = omega (arith, order_parts n t, order-count n (suc t), order-count n t, pow-suc 2 n)

-- and fewer where the word of ones, of weight n, is not among them
pub order_fewer : (n t : ℕ) → t ≤ n → length (order n t) < 2 ^ n
order_fewer n zero h = pow_pos n
order_fewer zero (suc t) h = absurd (omega arith)
order_fewer (suc n) (suc t) h = omega (arith, order_parts n t, order-count n (suc t), order_fewer n t (omega arith), pow-suc 2 n)
