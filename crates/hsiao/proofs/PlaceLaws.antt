-- Laws of the search for a place: the place found of a column, the number of a column, and both among the first places.
use mathlib.Core.Path.{◌≡◌, refl, sym, ap, ◌∙◌}
use mathlib.Core.List.{List}
use mathlib.Core.Bool.{Bool, true, false, cond}
use mathlib.Core.Logic.{◌≢◌, ◌⊎◌, inl, inr}
use Rattle.std.proofs.Common.{Some, None}
use Prim.Native.Nat.{ℕ, suc, ◌+◌, ◌-◌, ◌≤◌, ◌<◌}
use native.Mathlib.Nat.{le_refl, zero-add}
use native.Mathlib.Numerals.{add-one}
use native.Mathlib.Decide.{dec_le, ℕ_discrete}
use native.Mathlib.Omega.{arith}
use lib.Dec.{eqb, ltb}
use lib.ListN.{length, get_or, take}
use lib.Seq.{length-take-le, get_or-take, take_all}
use borrow.Author.Tests.{eqb-true, eq-eqb, lt-ltb, le-ltb, ltb-true, ltb-false}
use Rattle.coding.specs.Lists.{first}
use Rattle.coding.specs.Columns.{column_place}
use Rattle.coding.proofs.SearchLaws.{first-le, first_hit, first-before, first_is, first_upto}
use Rattle.hsiao.specs.Inner.Number.{column_number, some_place}

-- ---- one more than the first index below i that passes, or 0 where none does

abbrev pub number_below : (ℕ → Bool) → ℕ → ℕ
number_below p i = cond (ltb (first p i) i) (suc (first p i)) 0

number_is : (p : ℕ → Bool) (i j : ℕ) → first p i ≡ j → j < i → number_below p i ≡ suc j
number_is p i j e h = rw (e, lt-ltb j i h)

module _ (p : ℕ → Bool) (i : ℕ) where
  -- none passes
  number_none : ((j : ℕ) → j < i → p j ≡ false) → number_below p i ≡ 0
  number_none f =
      let e : first p i ≡ i = first_is p i i (le_refl i) f (λ h. absurd (omega arith)) in
      rw (e, le-ltb i i (le_refl i))

  -- the next one passes, and none before it
  number_found : ((j : ℕ) → j < i → p j ≡ false) → p i ≡ true → number_below p (i + 1) ≡ i + 1
  number_found f t = rw add-one (number_is p (suc i) i (first_is p (suc i) i (omega arith) f (λ _. t)) (le_refl (suc i)))

  -- so it is counted once, with its number
  pub number_hit : {n : ℕ} → n ≡ number_below p i → ((j : ℕ) → j < i → p j ≡ false) → p i ≡ true
      → (n ≡ 0) × (n + (i + 1) ≡ number_below p (i + 1))
  number_hit e f t =
      let z = e ∙ number_none f in
      (z, ap (λ (m : ℕ). m + (i + 1)) z ∙ zero-add (i + 1) ∙ sym (number_found f t))

  -- the next one does not pass
  pub number_passed : p i ≡ false → number_below p (i + 1) ≡ number_below p i
  number_passed e = rw add-one (go (dec_le (first p i) i) (ℕ_discrete (first p i) i))
    where
      go : Dec (first p i ≤ i) → Dec (first p i ≡ i) → number_below p (suc i) ≡ number_below p i
      go (no l) d = absurd (l (first-le p i))
      go (yes l) (no ne) =
          let h : first p i < i = omega arith in
          number_is p (suc i) (first p i) (first_is p (suc i) (first p i) (omega arith) (first-before p i) (λ _. first_hit p i h)) (omega arith)
          ∙ sym (number_is p i (first p i) refl h)
      go (yes l) (yes s) =
          let none : (j : ℕ) → j < suc i → p j ≡ false = λ j k. each j k (ℕ_discrete j i) in
          let f : first p (suc i) ≡ suc i = first_is p (suc i) (suc i) (le_refl (suc i)) none (λ h. absurd (omega arith)) in
          rw (f, le-ltb (suc i) (suc i) (le_refl (suc i)), s, le-ltb i i (le_refl i))
        where
          each : (j : ℕ) → j < suc i → Dec (j ≡ i) → p j ≡ false
          each j k (yes z) = ap p z ∙ e
          each j k (no ne) = first-before p i j (omega arith)

-- ---- the place of a column

-- the place found has the column s
pub place-column : (cols : List ℕ) (s : ℕ) → column_place cols s < length cols → s ≡ get_or cols (column_place cols s) 0
place-column cols s h = sym (eqb-true _ _ (first_hit (λ i. eqb (get_or cols i 0) s) (length cols) h))

-- a place that has the column s is not before the one found
pub place_upto : (cols : List ℕ) (s i : ℕ) → i < length cols → s ≡ get_or cols i 0 → column_place cols s ≤ i
place_upto cols s i h e = first_upto (λ j. eqb (get_or cols j 0) s) (length cols) i h (eq-eqb (get_or cols i 0) s (sym e))

-- among the first m places the same place is found, where it is one of them, or none
module _ (cols : List ℕ) (m : ℕ) (l : m ≤ length cols) (s : ℕ) where
  front_length : length (take m cols) ≡ m
  front_length = length-take-le m cols l

  -- found among them: it has the column s
  front_column : column_place (take m cols) s < m → s ≡ get_or cols (column_place (take m cols) s) 0
  front_column h = place-column (take m cols) s (omega (arith, h, front_length)) ∙ get_or-take m cols (column_place (take m cols) s) 0 h

  front_place : column_place cols s < m → column_place (take m cols) s ≡ column_place cols s
  front_place h =
      let f = column_place cols s in
      let u : column_place (take m cols) s ≤ f =
      place_upto (take m cols) s f (omega (arith, h, front_length)) (place-column cols s (omega (arith, l, h)) ∙ sym (get_or-take m cols f 0 h)) in
      let v : column_place (take m cols) s < m = omega (arith, u, h) in
      omega (arith, u, place_upto cols s (column_place (take m cols) s) (omega (arith, v, l)) (front_column v))

  front_none : m ≤ column_place cols s → m ≤ column_place (take m cols) s
  front_none h = go (dec_le m (column_place (take m cols) s))
    where
      go : Dec (m ≤ column_place (take m cols) s) → m ≤ column_place (take m cols) s
      go (yes k) = k
      go (no k) =
          let v : column_place (take m cols) s < m = omega (arith, k) in
          absurd (omega (arith, h, v, place_upto cols s (column_place (take m cols) s) (omega (arith, v, l)) (front_column v)))

  -- a number above m is that of a later place
  number_beyond : m < column_number cols s → 0 ≡ column_number (take m cols) s
  number_beyond h = go (ltb (column_place cols s) (length cols)) h
    where
      go : (b : Bool) → m < cond b (suc (column_place cols s)) 0 → 0 ≡ column_number (take m cols) s
      go true k = rw (le-ltb (column_place (take m cols) s) (length (take m cols)) (omega (arith, front_length, front_none (omega (arith, k)))))
      go false k = absurd (omega (arith, k))

  -- and any other stays
  number_front : column_number cols s ≤ m → column_number cols s ≡ column_number (take m cols) s
  number_front h = go (ltb (column_place cols s) (length cols)) refl h
    where
      go : (b : Bool) → ltb (column_place cols s) (length cols) ≡ b → cond b (suc (column_place cols s)) 0 ≤ m
          → cond b (suc (column_place cols s)) 0 ≡ column_number (take m cols) s
      go true e k =
          let f : column_place cols s < m = omega (arith, k) in
          rw (front_place f, lt-ltb (column_place cols s) (length (take m cols)) (omega (arith, f, front_length)))
      go false e k =
          rw
          (le-ltb (column_place (take m cols) s) (length (take m cols))
          (omega (arith, front_length, front_none (omega (arith, l, ltb-false (column_place cols s) (length cols) e)))))

-- ---- the place by its number

module _ (cols : List ℕ) (s : ℕ) where
  none_numbered : 0 ≡ column_number cols s → None ≡ some_place cols s
  none_numbered h = go (ltb (column_place cols s) (length cols)) h
    where
      go : (b : Bool) → 0 ≡ cond b (suc (column_place cols s)) 0 → None ≡ cond b (Some (column_place cols s)) None
      go true k = absurd (omega (arith, k))
      go false k = refl

  some_numbered : (n : ℕ) → n ≡ column_number cols s → n ≢ 0 → Some (n - 1) ≡ some_place cols s
  some_numbered n h ne = go (ltb (column_place cols s) (length cols)) h
    where
      go : (b : Bool) → n ≡ cond b (suc (column_place cols s)) 0 → Some (n - 1) ≡ cond b (Some (column_place cols s)) None
      go true k = ap Some (omega (arith, k))
      go false k = absurd (ne k)

  number-le : column_number cols s ≤ length cols
  number-le = go (ltb (column_place cols s) (length cols)) refl
    where
      go : (b : Bool) → ltb (column_place cols s) (length cols) ≡ b → cond b (suc (column_place cols s)) 0 ≤ length cols
      go true e = omega (arith, ltb-true (column_place cols s) (length cols) e)
      go false e = omega arith

-- among the first m places: none where there is no column s, or a later one
module _ (cols : List ℕ) (m s n : ℕ) (e : n ≡ column_number cols s) where
  pub place_none : (n ≡ 0) ⊎ (m < n) → None ≡ some_place (take m cols) s
  place_none (inl z) = none_numbered (take m cols) s (go (dec_le m (length cols)))
    where
      z₀ : column_number cols s ≡ 0
      z₀ = sym e ∙ z

      go : Dec (m ≤ length cols) → 0 ≡ column_number (take m cols) s
      go (yes l) = sym z₀ ∙ number_front cols m l s (omega (arith, z₀))
      go (no l) = sym z₀ ∙ ap (λ (c : List ℕ). column_number c s) (sym (take_all m cols (omega (arith, l))))
  place_none (inr h) = none_numbered (take m cols) s (number_beyond cols m (omega (arith, h, e, number-le cols s)) s (omega (arith, h, e)))

  pub place_some : n ≢ 0 → n ≤ m → Some (n - 1) ≡ some_place (take m cols) s
  place_some ne h = some_numbered (take m cols) s n (e ∙ go (dec_le m (length cols))) ne
    where
      go : Dec (m ≤ length cols) → column_number cols s ≡ column_number (take m cols) s
      go (yes l) = number_front cols m l s (omega (arith, h, e))
      go (no l) = ap (λ (c : List ℕ). column_number c s) (sym (take_all m cols (omega (arith, l))))
