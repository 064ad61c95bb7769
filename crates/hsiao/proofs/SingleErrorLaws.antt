-- Laws of the outcome of a word by the tests of its syndrome s. That s is a single bit exactly when s and s - 1 share none is computed
-- for every byte.
use mathlib.Core.Path.{◌≡◌, refl, sym, ap, ◌∙◌}
use mathlib.Core.Logic.{◌≢◌}
use mathlib.Core.Bool.{Bool, true, false, cond, ◌&&◌}
use mathlib.Core.List.{List}
use Rattle.std.proofs.Common.{Some, None}
use Prim.Native.Nat.{ℕ, zero, suc, ◌-◌, ◌^◌, ◌<◌}
use native.Mathlib.Decide.{ℕ_discrete}
use native.Mathlib.Omega.{arith}
use lib.Dec.{T, eqb, ltb, eqb→eq}
use lib.Bits.{bit_and}
use lib.ListN.{length}
use borrow.Author.Tests.{eq-eqb, ne_eqb, ltb-true}
use Rattle.coding.specs.Word.{◌⊕◌}
use Rattle.coding.specs.Columns.{units, column_place}
use Rattle.hsiao.specs.Outcome.{with_data, outcome_at}
use Rattle.hsiao.specs.Inner.Number.{some_place}
use Rattle.hsiao.specs.declared.word.Word.{Word}
use Rattle.outcomes.specs.declared.ending.Outcome.TheVariants.{Mended, Far}

-- a test of every number below m
abbrev below : (ℕ → Bool) → ℕ → Bool
below f zero = true
below f (suc m) = f m && below f m

below_at : (f : ℕ → Bool) (m : ℕ) → T (below f m) → (i : ℕ) → i < m → T (f i)
below_at f zero t i h = absurd (omega arith)
below_at f (suc m) t i h = go (f m) refl (ℕ_discrete i m) (λ u l. below_at f m u i l) t
  where
    go : (b : Bool) → f m ≡ b → Dec (i ≡ m) → (T (below f m) → i < m → T (f i)) → T (b && below f m) → T (f i)
    go true e (yes z) g t = rw (ap f z ∙ e) tt
    go true e (no ne) g t = g t (omega arith)
    go false e d g t = absurd t

-- the check place found of s
abbrev place : ℕ → ℕ
place s = column_place (units 8) s

-- s is a single bit, that of the place found, exactly when s and s - 1 share none
single : ℕ → Bool
single zero = true
single (suc t) = cond (eqb (bit_and (suc t) (suc t - 1)) 0) (ltb (place (suc t)) 8 && eqb (2 ^ place (suc t)) (suc t)) (cond (ltb (place (suc t)) 8) false true)

single_all : T (below single 256)
unfolding single
single_all = tt

module _ (s : ℕ) (h : s < 256) (ne : s ≢ 0) where
  tested : T (cond (eqb (bit_and s (s - 1)) 0) (ltb (place s) 8 && eqb (2 ^ place s) s) (cond (ltb (place s) 8) false true))
  unfolding single
  tested = go s ne (below_at single 256 single_all s h)
    where
      go : (s : ℕ) → s ≢ 0 → T (single s)
          → T (cond (eqb (bit_and s (s - 1)) 0) (ltb (place s) 8 && eqb (2 ^ place s) s) (cond (ltb (place s) 8) false true))
      go zero k t = absurd (k refl)
      go (suc t) k u = u

  unit_yes : bit_and s (s - 1) ≡ 0 → (ltb (place s) 8 ≡ true) × (2 ^ place s ≡ s)
  unit_yes z = go (ltb (place s) 8) refl (rw (eq-eqb (bit_and s (s - 1)) 0 z) at tested)
    where
      go : (b : Bool) → ltb (place s) 8 ≡ b → T (b && eqb (2 ^ place s) s) → (b ≡ true) × (2 ^ place s ≡ s)
      go true e t = (refl, eqb→eq (2 ^ place s) s t)
      go false e t = absurd t

  unit_no : bit_and s (s - 1) ≢ 0 → ltb (place s) 8 ≡ false
  unit_no k = go (ltb (place s) 8) (rw (ne_eqb (bit_and s (s - 1)) 0 k) at tested)
    where
      go : (b : Bool) → T (cond b false true) → b ≡ false
      go true t = absurd t
      go false t = refl

  -- a single bit: that check place is mended
  pub outcome_check : (cols : List ℕ) (w : Word) → bit_and s (s - 1) ≡ 0
      → Mended (record { check = w.check ⊕ s; «data» = w.«data» }) 1 ≡ outcome_at 8 cols w s
  outcome_check cols w z =
      let (b, e) = unit_yes z in
      rw (ne_eqb s 0 ne, b) (ap (λ (x : ℕ). Mended (record { check = w.check ⊕ x; «data» = w.«data» }) 1) (sym e))

  module _ (cols : List ℕ) (w : Word) (k : bit_and s (s - 1) ≢ 0) where
    pub outcome_far : None ≡ some_place cols s → Far ≡ outcome_at 8 cols w s
    outcome_far e = rw (ne_eqb s 0 ne, unit_no k) (go (ltb (column_place cols s) (length cols)) e)
      where
        go : (b : Bool) → None ≡ cond b (Some (column_place cols s)) None → Far ≡ cond b (Mended (with_data w (column_place cols s)) 1) Far
        go true f = absurd cc
        go false f = refl

    -- a column: that data place is mended
    pub outcome_data : (i : ℕ) → Some i ≡ some_place cols s → (i < length cols) × (Mended (with_data w i) 1 ≡ outcome_at 8 cols w s)
    outcome_data i e = go (ltb (column_place cols s) (length cols)) refl e
      where
        go : (b : Bool) → ltb (column_place cols s) (length cols) ≡ b → Some i ≡ cond b (Some (column_place cols s)) None
            → (i < length cols) × (Mended (with_data w i) 1 ≡ outcome_at 8 cols w s)
        go false t f = absurd cc
        go true t f =
            let q : i ≡ column_place cols s = cc in
            (omega (arith, q, ltb-true (column_place cols s) (length cols) t), rw (q, ne_eqb s 0 ne, unit_no k, t))
