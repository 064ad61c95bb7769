-- Laws of the search for the least by a key: it finds one where there is any, and there is one at most. By weight that is the lightest; and a
-- word plus the lightest word of its syndrome is a nearest codeword. Assumes nothing.
use mathlib.Core.Path.{◌≡◌, refl, sym, ap, ap₂, ◌∙◌}
use mathlib.Core.Option.{Option, none, some}
use mathlib.Core.Bool.{Bool, true, false, cond}
use Prim.Native.Nat.{ℕ, zero, suc, ◌^◌, ◌≤◌, ◌<◌}
use native.Mathlib.Nat.{le_refl, le_antisymm}
use native.Mathlib.Omega.{arith}
use lib.Dec.{T, ltb, ltb→lt, nltb→le, eqb→eq, eqb_refl}
use lib.Bits.{xor_lt, xor_self, xor_zero_r}
use borrow.Author.Count.{below_more}
use Rattle.coding.specs.Word.{◌⊕◌, weight, distance}
use Rattle.coding.specs.Lightest.{merge, least_below, lightest_below}
use Rattle.coding.specs.Leader.{having}
use Rattle.coding.proofs.WordLaws.{xor_cancel}

-- what holds of each number below m, and of m
last : (Q : ℕ → Type 0) {m : ℕ} → ((v : ℕ) → v < m → Q v) → Q m → (v : ℕ) → v < suc m → Q v
last Q {m} f q v h = below_more Q m f q v (omega arith)

pub record IsLeast (key : ℕ → ℕ) (p : ℕ → Bool) (m b : ℕ) : Type 0 where
  pub passes : T (p b)
  pub below : b < m
  pub light : (v : ℕ) → v < m → T (p v) → key b ≤ key v
  pub first : (v : ℕ) → v < m → T (p v) → key v ≡ key b → b ≤ v

abbrev pub FoundBy : (ℕ → ℕ) → (ℕ → Bool) → ℕ → Option ℕ → Type 0
FoundBy key p m none = (v : ℕ) → v < m → T (p v) → ⊥
FoundBy key p m (some b) = IsLeast key p m b

pub found_by : (key : ℕ → ℕ) (p : ℕ → Bool) (m : ℕ) → FoundBy key p m (least_below key p m)
found_by key p zero = λ v h. absurd (omega arith)
found_by key p (suc m) = go (p m) refl (least_below key p m) (found_by key p m)
  where
    go : (t : Bool) → p m ≡ t → (o : Option ℕ) → FoundBy key p m o → FoundBy key p (suc m) (merge key t m o)
    go false e none f = last (λ v. T (p v) → ⊥) f (λ t. rw e at t)
    go false e (some b) f = record {
      passes = f.passes;
      below = omega arith;
      light = last (λ v. T (p v) → key b ≤ key v) f.light (λ t. absurd (rw e at t));
      first = last (λ v. T (p v) → key v ≡ key b → b ≤ v) f.first (λ t. absurd (rw e at t));
    }
    go true e none f = record {
      passes = rw e tt;
      below = le_refl (suc m);
      light = last (λ v. T (p v) → key m ≤ key v) (λ v h t. absurd (f v h t)) (λ t. le_refl (key m));
      first = last (λ v. T (p v) → key v ≡ key m → m ≤ v) (λ v h t. absurd (f v h t)) (λ t q. le_refl m);
    }
    go true e (some b) f = choose (ltb (key m) (key b)) refl
      where
        choose : (c : Bool) → ltb (key m) (key b) ≡ c → IsLeast key p (suc m) (cond c m b)
        choose true q = record {
          passes = rw e tt;
          below = le_refl (suc m);
          light = last (λ v. T (p v) → key m ≤ key v) (λ v h t. omega (arith, f.light v h t, ltb→lt (key m) (key b) (rw q tt)))
              (λ t. le_refl (key m));
          first = last (λ v. T (p v) → key v ≡ key m → m ≤ v)
              (λ v h t k. absurd (omega (arith, f.light v h t, ltb→lt (key m) (key b) (rw q tt)))) (λ t k. le_refl m);
        }
        choose false q = record {
          passes = f.passes;
          below = omega arith;
          light = last (λ v. T (p v) → key b ≤ key v) f.light (λ t. nltb→le (key m) (key b) (rw q tt));
          first = last (λ v. T (p v) → key v ≡ key b → b ≤ v) f.first (λ t k. omega arith);
        }

-- there is one at most
pub least-one : (key : ℕ → ℕ) (p : ℕ → Bool) (m a b : ℕ) → IsLeast key p m a → IsLeast key p m b → a ≡ b
least-one key p m a b f g =
    let e : key a ≡ key b = le_antisymm (f.light b g.below g.passes) (g.light a f.below f.passes) in
    le_antisymm (f.first b g.below g.passes (sym e)) (g.first a f.below f.passes e)

-- tests that agree find the same
pub least_same : (key : ℕ → ℕ) (p q : ℕ → Bool) (m : ℕ) → ((v : ℕ) → v < m → p v ≡ q v) → least_below key p m ≡ least_below key q m
least_same key p q zero h = refl
least_same key p q (suc m) h =
    ap₂ (λ (b : Bool) (o : Option ℕ). merge key b m o) (h m (le_refl (suc m))) (least_same key p q m (λ v l. h v (omega arith)))

-- ---- by weight

abbrev pub IsLightest : (ℕ → Bool) → ℕ → ℕ → Type 0
IsLightest p m b = IsLeast weight p m b

abbrev pub Found : (ℕ → Bool) → ℕ → Option ℕ → Type 0
Found p m o = FoundBy weight p m o

pub found : (p : ℕ → Bool) (m : ℕ) → Found p m (lightest_below p m)
found p m = found_by weight p m

pub lightest-one : (p : ℕ → Bool) (m a b : ℕ) → IsLightest p m a → IsLightest p m b → a ≡ b
lightest-one p m a b f g = least-one weight p m a b f g

pub lightest_same : (p q : ℕ → Bool) (m : ℕ) → ((v : ℕ) → v < m → p v ≡ q v) → lightest_below p m ≡ lightest_below q m
lightest_same p q m h = least_same weight p q m h

-- ---- the nearest codeword

module _ (n : ℕ) (syn : ℕ → ℕ) (lin : (a b : ℕ) → syn (a ⊕ b) ≡ syn a ⊕ syn b) (C : ℕ → Type 0)
    (zero_is : (w : ℕ) → w < 2 ^ n → syn w ≡ 0 → C w) (is_zero : (w : ℕ) → C w → (w < 2 ^ n) × (syn w ≡ 0)) where
  pub nearest : (w l : ℕ) → w < 2 ^ n → IsLightest (having syn (syn w)) (2 ^ n) l
      → C (w ⊕ l) × (distance w (w ⊕ l) ≡ weight l) × ((c : ℕ) → C c → distance w (w ⊕ l) ≤ distance w c)
  nearest w l hw f = (
    zero_is (w ⊕ l) (xor_lt n w l hw f.below) (lin w l ∙ ap (λ (x : ℕ). syn w ⊕ x) (eqb→eq (syn l) (syn w) f.passes) ∙ xor_self (syn w)),
    ap weight (xor_cancel w l),
    λ c cc. rw (xor_cancel w l) (f.light (w ⊕ c) (xor_lt n w c hw (is_zero c cc).0)
        (rw (lin w c, (is_zero c cc).1, xor_zero_r (syn w)) (eqb_refl (syn w)))),
  )
