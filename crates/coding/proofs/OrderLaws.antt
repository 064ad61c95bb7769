-- Laws of the order by weight and number: the first word in it that passes a test is the lightest, and of equals the smallest.
-- Assumes nothing.
use mathlib.Core.Path.{◌≡◌, refl, sym, ap, ◌∙◌}
use mathlib.Core.Logic.{◌≢◌}
use mathlib.Core.List.{List, [], ◌∷◌, ◌++◌, map}
use mathlib.Core.Option.{Option, none, some}
use mathlib.Core.Bool.{Bool, true, false}
use Prim.Native.Nat.{ℕ, zero, suc, ◌+◌, ◌-◌, ◌^◌, ◌≤◌, ◌<◌}
use native.Mathlib.Nat.{pow-suc, suc_inj, one-mul}
use native.Mathlib.Decide.{dec_le, ℕ_discrete}
use native.Mathlib.Omega.{arith}
use lib.Dec.{T}
use lib.Pow.{pow_pos}
use lib.Count.{ones_cat}
use Rattle.coding.specs.Word.{weight}
use Rattle.coding.specs.Order.{words, order}
use Rattle.coding.proofs.WeightLaws.{weight-zero, weight_none, weight-pow}
use Rattle.coding.proofs.LightestLaws.{IsLightest}

-- the first that passes
abbrev pub pick_first : Bool → ℕ → Option ℕ → Option ℕ
pick_first true w o = some w
pick_first false w o = o

abbrev pub first_in : (ℕ → Bool) → List ℕ → Option ℕ
first_in p [] = none
first_in p (w ∷ ws) = pick_first (p w) w (first_in p ws)

abbrev or_else : Option ℕ → Option ℕ → Option ℕ
or_else none o = o
or_else (some w) o = some w

first-append : (p : ℕ → Bool) (xs ys : List ℕ) → first_in p (xs ++ ys) ≡ or_else (first_in p xs) (first_in p ys)
first-append p [] ys = refl
first-append p (x ∷ xs) ys = ap (pick_first (p x) x) (first-append p xs ys) ∙ go (p x)
  where
    go : (b : Bool) → pick_first b x (or_else (first_in p xs) (first_in p ys)) ≡ or_else (pick_first b x (first_in p xs)) (first_in p ys)
    go true = refl
    go false = refl

abbrev shifted : ℕ → Option ℕ → Option ℕ
shifted k none = none
shifted k (some w) = some (k + w)

first-map : (p : ℕ → Bool) (k : ℕ) (xs : List ℕ) → first_in p (map (λ w. k + w) xs) ≡ shifted k (first_in (λ w. p (k + w)) xs)
first-map p k [] = refl
first-map p k (x ∷ xs) = ap (pick_first (p (k + x)) (k + x)) (first-map p k xs) ∙ go (p (k + x))
  where
    go : (b : Bool) → pick_first b (k + x) (shifted k (first_in (λ w. p (k + w)) xs)) ≡ shifted k (pick_first b x (first_in (λ w. p (k + w)) xs))
    go true = refl
    go false = refl

-- what is found among the words below m of weight t
pub record Least (p : ℕ → Bool) (m t b : ℕ) : Type 0 where
  pub passes : T (p b)
  pub below : b < m
  pub weighs : weight b ≡ t
  pub least : (v : ℕ) → v < m → weight v ≡ t → T (p v) → b ≤ v

abbrev pub Sought : (ℕ → Bool) → ℕ → ℕ → Option ℕ → Type 0
Sought p m t none = (v : ℕ) → v < m → weight v ≡ t → T (p v) → ⊥
Sought p m t (some b) = Least p m t b

pub weight_top : (m v : ℕ) → v < 2 ^ m → weight (2 ^ m + v) ≡ suc (weight v)
weight_top m v h = ap (λ (x : ℕ). weight (x + v)) (sym (one-mul (2 ^ m))) ∙ ones_cat m 1 v h ∙ omega (arith, weight-pow 0)

-- a word with a one at its highest place, less that place
top_off : (m t v : ℕ) (p : ℕ → Bool) → v < 2 ^ suc m → 2 ^ m ≤ v → weight v ≡ suc t → T (p v)
    → (v - 2 ^ m < 2 ^ m) × (weight (v - 2 ^ m) ≡ t) × T (p (2 ^ m + (v - 2 ^ m)))
top_off m t v p h l w k =
    let e : 2 ^ m + (v - 2 ^ m) ≡ v = omega arith in
    let b : v - 2 ^ m < 2 ^ m = omega (arith, pow-suc 2 m) in
    (b, suc_inj (sym (weight_top m (v - 2 ^ m) b) ∙ ap weight e ∙ w), rw e k)

halves : (m t : ℕ) (p : ℕ → Bool) (o : Option ℕ) → Sought p (2 ^ m) (suc t) o → (r : Option ℕ) → Sought (λ w. p (2 ^ m + w)) (2 ^ m) t r
    → Sought p (2 ^ suc m) (suc t) (or_else o (shifted (2 ^ m) r))
halves m t p none f none g = λ v h w k. go v h w k (dec_le (2 ^ m) v)
  where
    go : (v : ℕ) → v < 2 ^ suc m → weight v ≡ suc t → T (p v) → Dec (2 ^ m ≤ v) → ⊥
    go v h w k (yes l) = let (b, e, q) = top_off m t v p h l w k in g (v - 2 ^ m) b e q
    go v h w k (no l) = f v (omega arith) w k
halves m t p none f (some b) g = record {
  passes = g.passes;
  below = omega (arith, pow-suc 2 m);
  weighs = weight_top m b g.below ∙ ap suc g.weighs;
  least = λ v h w k. go v h w k (dec_le (2 ^ m) v);
}
  where
    go : (v : ℕ) → v < 2 ^ suc m → weight v ≡ suc t → T (p v) → Dec (2 ^ m ≤ v) → 2 ^ m + b ≤ v
    go v h w k (yes l) = let (a, e, q) = top_off m t v p h l w k in omega (arith, g.least (v - 2 ^ m) a e q)
    go v h w k (no l) = absurd (f v (omega arith) w k)
halves m t p (some b) f r g = record {
  passes = f.passes;
  below = omega (arith, pow-suc 2 m);
  weighs = f.weighs;
  least = λ v h w k. go v h w k (dec_le (2 ^ m) v);
}
  where
    go : (v : ℕ) → v < 2 ^ suc m → weight v ≡ suc t → T (p v) → Dec (2 ^ m ≤ v) → b ≤ v
    go v h w k (yes l) = omega arith
    go v h w k (no l) = f.least v (omega arith) w k

pub first_word : (m t : ℕ) (p : ℕ → Bool) → Sought p (2 ^ m) t (first_in p (words m t))
first_word m zero p = go (p 0) refl
  where
    go : (b : Bool) → p 0 ≡ b → Sought p (2 ^ m) 0 (pick_first b 0 none)
    go true e = record { passes = rw e tt; below = pow_pos m; weighs = weight-zero; least = λ v h w k. omega arith }
    go false e = λ v h w k. let z : v ≡ 0 = weight_none v w in rw (ap p z ∙ e) at k
first_word zero (suc t) p = λ v h w k. let z : v ≡ 0 = omega arith in absurd (omega (arith, w, ap weight z ∙ weight-zero))
first_word (suc m) (suc t) p =
    rw (first-append p (words m (suc t)) (map (λ w. 2 ^ m + w) (words m t)), first-map p (2 ^ m) (words m t))
    (halves m t p (first_in p (words m (suc t))) (first_word m (suc t) p) (first_in (λ w. p (2 ^ m + w)) (words m t)) (first_word m t (λ w. p (2 ^ m + w))))

-- ---- over the weights below t: the first in the order is the lightest, and of equals the smallest

abbrev pub InOrder : (ℕ → Bool) → ℕ → ℕ → Option ℕ → Type 0
InOrder p n t none = (v : ℕ) → v < 2 ^ n → weight v < t → T (p v) → ⊥
InOrder p n t (some b) = IsLightest p (2 ^ n) b × (weight b < t)

pub first-lightest : (n t : ℕ) (p : ℕ → Bool) → InOrder p n t (first_in p (order n t))
first-lightest n zero p = λ v h w k. absurd (omega arith)
first-lightest n (suc t) p =
    rw (first-append p (order n t) (words n t)) (go (first_in p (order n t)) (first-lightest n t p) (first_in p (words n t)) (first_word n t p))
  where
    at_t : (v : ℕ) → weight v < suc t → weight v ≢ t → weight v < t
    at_t v h ne = omega arith

    go : (o : Option ℕ) → InOrder p n t o → (r : Option ℕ) → Sought p (2 ^ n) t r → InOrder p n (suc t) (or_else o r)
    go (some b) f r g = (f.0, omega arith)
    go none f none g = λ v h w k. pick v h w k (ℕ_discrete (weight v) t)
      where
        pick : (v : ℕ) → v < 2 ^ n → weight v < suc t → T (p v) → Dec (weight v ≡ t) → ⊥
        pick v h w k (yes e) = g v h e k
        pick v h w k (no e) = f v h (at_t v w e) k
    go none f (some b) g = (
      record {
        passes = g.passes;
        below = g.below;
        light = λ v h k. pick v h k (dec_le t (weight v));
        first = λ v h k e. g.least v h (e ∙ g.weighs) k;
      },
      omega (arith, g.weighs),
    )
      where
        pick : (v : ℕ) → v < 2 ^ n → T (p v) → Dec (t ≤ weight v) → weight b ≤ weight v
        pick v h k (yes l) = omega (arith, g.weighs)
        pick v h k (no l) = absurd (f v h (omega arith) k)
