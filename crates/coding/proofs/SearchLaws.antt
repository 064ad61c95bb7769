-- Laws of the first index that passes a test, and of the first message with a given codeword. Assumes nothing.
use mathlib.Core.Path.{◌≡◌, refl, sym, ap, ◌∙◌}
use mathlib.Core.Logic.{◌↔◌}
use mathlib.Core.List.{List}
use mathlib.Core.Bool.{Bool, true, false, cond}
use Prim.Native.Nat.{ℕ, zero, suc, ◌^◌, ◌≤◌, ◌<◌, suc-le-suc}
use native.Mathlib.Nat.{le_refl, le_of_suc-le-suc, zero-lt-suc}
use native.Mathlib.Decide.{dec_le}
use native.Mathlib.Omega.{arith}
use lib.Dec.{eqb}
use lib.ListN.{length}
use borrow.Author.Tests.{ltb-true, eqb-true, lt-ltb, eq-eqb}
use Rattle.coding.specs.Lists.{first}
use Rattle.coding.specs.Matrix.{encode, Codeword, message_of, is_codeword}

-- nothing is both
pub true_false : {b : Bool} → b ≡ true → b ≡ false → ⊥
true_false p q = let z : ◌≡◌ {A = ℕ} 0 1 = cc in absurd (omega arith)

pub first-le : (p : ℕ → Bool) (m : ℕ) → first p m ≤ m
first-le p zero = le_refl 0
first-le p (suc m) = go (p zero) (first-le (λ i. p (suc i)) m)
  where
    go : (b : Bool) → first (λ i. p (suc i)) m ≤ m → cond b zero (suc (first (λ i. p (suc i)) m)) ≤ suc m
    go true l = omega arith
    go false l = suc-le-suc l

-- the index found passes, where there is one
pub first_hit : (p : ℕ → Bool) (m : ℕ) → first p m < m → p (first p m) ≡ true
first_hit p zero h = absurd (omega arith)
first_hit p (suc m) h = go (p zero) refl (first_hit (λ i. p (suc i)) m) h
  where
    go : (b : Bool) → p zero ≡ b → (first (λ i. p (suc i)) m < m → p (suc (first (λ i. p (suc i)) m)) ≡ true)
        → cond b zero (suc (first (λ i. p (suc i)) m)) < suc m → p (cond b zero (suc (first (λ i. p (suc i)) m))) ≡ true
    go true e f l = e
    go false e f l = f (le_of_suc-le-suc l)

-- and none before it does
pub first-before : (p : ℕ → Bool) (m j : ℕ) → j < first p m → p j ≡ false
first-before p zero j h = absurd (omega arith)
first-before p (suc m) j h = go (p zero) refl (first-before (λ i. p (suc i)) m) j h
  where
    go : (b : Bool) → p zero ≡ b → ((j : ℕ) → j < first (λ i. p (suc i)) m → p (suc j) ≡ false)
        → (j : ℕ) → j < cond b zero (suc (first (λ i. p (suc i)) m)) → p j ≡ false
    go true e f j l = absurd (omega arith)
    go false e f zero l = e
    go false e f (suc j) l = f j (le_of_suc-le-suc l)

-- these facts say which index it is
pub first_is : (p : ℕ → Bool) (m r : ℕ) → r ≤ m → ((j : ℕ) → j < r → p j ≡ false) → (r < m → p r ≡ true) → first p m ≡ r
first_is p zero r h f t = omega arith
first_is p (suc m) zero h f t = ap (λ (b : Bool). cond b zero (suc (first (λ i. p (suc i)) m))) (t (zero-lt-suc m))
first_is p (suc m) (suc r) h f t =
    ap (λ (b : Bool). cond b zero (suc (first (λ i. p (suc i)) m))) (f zero (zero-lt-suc r))
    ∙ ap suc (first_is (λ i. p (suc i)) m r (le_of_suc-le-suc h) (λ j l. f (suc j) (suc-le-suc l)) (λ l. t (suc-le-suc l)))

-- an index that passes is not before the one found
pub first_upto : (p : ℕ → Bool) (m i : ℕ) → i < m → p i ≡ true → first p m ≤ i
first_upto p m i h e = go (dec_le (first p m) i)
  where
    go : Dec (first p m ≤ i) → first p m ≤ i
    go (yes l) = l
    go (no l) = absurd (true_false e (first-before p m i (omega arith)))

-- tests that agree find the same index
pub first_same : (p q : ℕ → Bool) (m : ℕ) → ((i : ℕ) → i < m → p i ≡ q i) → first p m ≡ first q m
first_same p q m f =
    first_is p m (first q m) (first-le q m) (λ j l. f j (omega (arith, first-le q m)) ∙ first-before q m j l)
    (λ l. f (first q m) l ∙ first_hit q m l)

-- ---- the message of a word, where it has one

module _ (rows : List ℕ) (w : ℕ) where
  pub message_hit : message_of rows w < 2 ^ length rows → encode rows (message_of rows w) ≡ w
  unfolding message_of
  message_hit h = eqb-true _ _ (first_hit (λ u. eqb (encode rows u) w) (2 ^ length rows) h)

  pub message_le : (u : ℕ) → encode rows u ≡ w → message_of rows w ≤ u
  unfolding message_of
  message_le u e = go (dec_le (first (λ v. eqb (encode rows v) w) (2 ^ length rows)) u)
    where
      go : Dec (first (λ v. eqb (encode rows v) w) (2 ^ length rows) ≤ u) → first (λ v. eqb (encode rows v) w) (2 ^ length rows) ≤ u
      go (yes l) = l
      go (no l) =
          absurd (true_false (eq-eqb (encode rows u) w e) (first-before (λ v. eqb (encode rows v) w) (2 ^ length rows) u (omega arith)))

  pub codeword-test : (is_codeword rows w ≡ true) ↔ Codeword rows w
  codeword-test = (
    λ e. let l : message_of rows w < 2 ^ length rows = ltb-true (message_of rows w) (2 ^ length rows) e in (message_of rows w, l, sym (message_hit l)),
    λ (u, h, e). lt-ltb (message_of rows w) (2 ^ length rows) (omega (arith, message_le u (sym e))),
  )

  pub codeword_fails : (Codeword rows w → ⊥) → is_codeword rows w ≡ false
  codeword_fails f = go (is_codeword rows w) refl
    where
      go : (b : Bool) → is_codeword rows w ≡ b → b ≡ false
      go true e = absurd (f (codeword-test.0 e))
      go false e = refl
