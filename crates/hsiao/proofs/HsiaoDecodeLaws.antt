-- What Encode and Decode promise, over any number of check places and any columns of the rule: the check bits, the radius rules at 1, clean
-- and far.
use mathlib.Core.Path.{◌≡◌, refl, sym, ap, ◌∙◌}
use mathlib.Core.Logic.{◌↔◌, ◌⊎◌, inl, inr}
use mathlib.Core.List.{List}
use mathlib.Core.Bool.{Bool, true, false, cond}
use Prim.Native.Nat.{ℕ, ◌^◌, ◌≤◌, ◌<◌}
use native.Mathlib.Decide.{dec_le}
use native.Mathlib.Omega.{arith}
use lib.Dec.{eqb, ltb, lit≤}
use lib.ListN.{length}
use lib.Pow.{pow_mono}
use borrow.Author.Tests.{eqb-true, eqb-false, ltb-true, ltb-false, lt-ltb, le-ltb}
use Rattle.coding.specs.Matrix.{encode, Inside}
use Rattle.coding.specs.Radius.{RadiusRules}
use Rattle.coding.specs.Columns.{SplitWord, split_distance, units, split_syndrome, column_place, SplitPlaces, SplitCodeword, OddColumns, SplitMinimumDistance}
use Rattle.coding.proofs.ListLaws.{length-tabulate, get_d_tabulate}
use Rattle.coding.proofs.RadiusLaws.{radius-found}
use Rattle.coding.proofs.ColumnLaws.{split_discrete, split-distance_sym, split-distance_tri, split-distance_self, check_is, encoded-codeword}
use Rattle.coding.proofs.ColumnLaws.{four-apart, IsColumn, check_changed_distance, info_changed_distance, mend_check, mend_info, near_syndrome}
use Rattle.hsiao.specs.Table.{split}
use Rattle.hsiao.specs.Outcome.{with_check, with_data, outcome_at, outcome_by}
use Rattle.outcomes.specs.Outcome.{word_in, count_in, corrected}
use Rattle.hsiao.specs.Encoded.{EncodedBy}
use Rattle.hsiao.specs.Decoded.{DecodedBy}
use Rattle.hsiao.specs.declared.word.Word.{Word}
use Rattle.outcomes.specs.declared.ending.Outcome.{Outcome}
use Rattle.outcomes.specs.declared.ending.Outcome.TheVariants.{Clean, Mended, Far}
use Rattle.hsiao.proofs.PlaceLaws.{place-column, place_upto}

module _ (c : ℕ) where
  units-length : length (units c) ≡ c
  units-length = length-tabulate (λ j. 2 ^ j) c

  unit_place : (s : ℕ) → column_place (units c) s < c → s ≡ 2 ^ column_place (units c) s
  unit_place s h = place-column (units c) s (omega (arith, h, units-length)) ∙ get_d_tabulate (λ j. 2 ^ j) c (column_place (units c) s) h

  unit_upto : (s j : ℕ) → j < c → s ≡ 2 ^ j → column_place (units c) s ≤ j
  unit_upto s j h e = place_upto (units c) s j (omega (arith, h, units-length)) (e ∙ sym (get_d_tabulate (λ i. 2 ^ i) c j h))

-- a syndrome within c check places ends a word alike for c check places and for more
module _ (c d : ℕ) (l : c ≤ d) (s : ℕ) (h : s < 2 ^ c) where
  fewer_place : column_place (units d) s < d → column_place (units d) s < c
  fewer_place k = go (dec_le c (column_place (units d) s))
    where
      go : Dec (c ≤ column_place (units d) s) → column_place (units d) s < c
      go (yes q) = absurd (omega (arith, h, unit_place d s k, pow_mono q))
      go (no q) = omega arith

  pub fewer_checks : (cols : List ℕ) (w : Word) → outcome_at d cols w s ≡ outcome_at c cols w s
  fewer_checks cols w = go (ltb (column_place (units c) s) c) refl
    where
      go : (b : Bool) → ltb (column_place (units c) s) c ≡ b
          → outcome_at d cols w s
          ≡ cond (eqb s 0) (Clean w)
          (cond b (Mended (with_check w (column_place (units c) s)) 1)
          (cond (ltb (column_place cols s) (length cols)) (Mended (with_data w (column_place cols s)) 1) Far))
      go true e =
          let p : column_place (units c) s < c = ltb-true (column_place (units c) s) c e in
          let u : column_place (units d) s ≤ column_place (units c) s = unit_upto d s (column_place (units c) s) (omega (arith, p, l)) (unit_place c s p) in
          let v : column_place (units d) s < c = omega (arith, u, p) in
          let q : column_place (units d) s ≡ column_place (units c) s =
          omega (arith, u, unit_upto c s (column_place (units d) s) v (unit_place d s (omega (arith, v, l)))) in
          rw (q, lt-ltb (column_place (units c) s) d (omega (arith, p, l)))
      go false e = rw (le-ltb (column_place (units d) s) d (none (dec_le d (column_place (units d) s))))
        where
          none : Dec (d ≤ column_place (units d) s) → d ≤ column_place (units d) s
          none (yes k) = k
          none (no k) =
              let p : column_place (units d) s < d = omega (arith, k) in
              let v : column_place (units d) s < c = fewer_place p in
              absurd (omega (arith, v, ltb-false (column_place (units c) s) c e, unit_upto c s (column_place (units d) s) v (unit_place d s p)))

-- the outcome by the three tests: no error, the column of check place j, that of data place i
abbrev tested : Word → ℕ → ℕ → Bool → Bool → Bool → Outcome Word
tested w j i b₀ b₁ b₂ = cond b₀ (Clean w) (cond b₁ (Mended (with_check w j) 1) (cond b₂ (Mended (with_data w i) 1) Far))

module _ (c : ℕ) (cols : List ℕ) (K : OddColumns c cols) (w : Word) (P : SplitPlaces c cols (split w)) where
  -- the outcome is a codeword within 1 with its distance as the count, or far and no codeword is within 1
  abbrev Found : Outcome Word → Type 0
  Found o =
      ((count_in o ≡ 255) × ((b : SplitWord) → SplitCodeword c cols b → 1 < split_distance (split w) b))
      ⊎ ((count_in o ≡ 255 → ⊥) × SplitCodeword c cols (split (word_in o w)) × (count_in o ≡ split_distance (split w) (split (word_in o w)))
      × (split_distance (split w) (split (word_in o w)) ≤ 1))

  one_away : (o : Outcome Word) → count_in o ≡ 1 → split_distance (split w) (split (word_in o w)) ≡ 1 → SplitCodeword c cols (split (word_in o w)) → Found o
  one_away o e d C = inr ((λ z. absurd (omega (arith, e, z))), C, e ∙ sym d, omega (arith, d))

  found : Found (outcome_by c cols w)
  found = go (eqb s₀ 0) (ltb (column_place (units c) s₀) c) (ltb (column_place cols s₀) (length cols)) refl refl refl
    where
      s₀ : ℕ
      s₀ = split_syndrome c cols (split w)

      none : (eqb s₀ 0 ≡ false) → (ltb (column_place (units c) s₀) c ≡ false) → (ltb (column_place cols s₀) (length cols) ≡ false)
          → (s₀ ≡ 0) ⊎ IsColumn c cols s₀ → ⊥
      none e₀ e₁ e₂ (inl z) = eqb-false s₀ 0 e₀ z
      none e₀ e₁ e₂ (inr (inl (j, h, z))) = absurd (omega (arith, ltb-false (column_place (units c) s₀) c e₁, unit_upto c s₀ j h z))
      none e₀ e₁ e₂ (inr (inr (i, h, z))) = absurd (omega (arith, ltb-false (column_place cols s₀) (length cols) e₂, place_upto cols s₀ i h z))

      go : (b₀ b₁ b₂ : Bool)
          → eqb s₀ 0 ≡ b₀ → ltb (column_place (units c) s₀) c ≡ b₁ → ltb (column_place cols s₀) (length cols) ≡ b₂
          → Found (tested w (column_place (units c) s₀) (column_place cols s₀) b₀ b₁ b₂)
      go true b₁ b₂ e₀ e₁ e₂ =
          let d = split-distance_self (split w) in
          inr (
            (λ z. absurd (omega (arith, z))),
            record { places = P; zero_syndrome = eqb-true s₀ 0 e₀ },
            sym d,
            omega (arith, d),
          )
      go false true b₂ e₀ e₁ e₂ =
          let h : column_place (units c) s₀ < c = ltb-true (column_place (units c) s₀) c e₁ in
          one_away (Mended (with_check w (column_place (units c) s₀)) 1) refl (check_changed_distance (split w) (column_place (units c) s₀))
          (mend_check c cols (split w) P (column_place (units c) s₀) h (unit_place c s₀ h))
      go false false true e₀ e₁ e₂ =
          let h : column_place cols s₀ < length cols = ltb-true (column_place cols s₀) (length cols) e₂ in
          one_away (Mended (with_data w (column_place cols s₀)) 1) refl (info_changed_distance (split w) (column_place cols s₀))
          (mend_info c cols (split w) P (column_place cols s₀) h (place-column cols s₀ h))
      go false false false e₀ e₁ e₂ = inl (refl, λ b B. beyond b B (dec_le (split_distance (split w) b) 1))
        where
          beyond : (b : SplitWord) → SplitCodeword c cols b → Dec (split_distance (split w) b ≤ 1) → 1 < split_distance (split w) b
          beyond b B (yes l) = absurd (none e₀ e₁ e₂ (near_syndrome c cols (split w) P b B l))
          beyond b B (no l) = omega arith

  pub radius-one : RadiusRules SplitWord (SplitCodeword c cols) split_distance 4 1 (split w)
      (split (word_in (outcome_by c cols w) w))
      (count_in (outcome_by c cols w)) (count_in (outcome_by c cols w) ≡ 255)
  radius-one =
      radius-found SplitWord split_discrete split_distance split-distance_sym split-distance_tri (SplitCodeword c cols) 4 (four-apart c cols K)
      1 (lit≤ tt) (split w) (split (word_in (outcome_by c cols w) w))
      (count_in (outcome_by c cols w)) (count_in (outcome_by c cols w) ≡ 255) found

-- the count tells the outcome
module _ (c : ℕ) (cols : List ℕ) (w : Word) (s : ℕ) where
  abbrev Told : Outcome Word → Type 0
  Told o = ((count_in o ≡ 0) ↔ (o ≡ Clean w)) × ((count_in o ≡ 255) ↔ (o ≡ Far))

  told : Told (outcome_at c cols w s)
  told = go (eqb s 0) (ltb (column_place (units c) s) c) (ltb (column_place cols s) (length cols))
    where
      clash : (o : Outcome Word) (m n : ℕ) → count_in o ≡ m → (m ≡ n → ⊥) → (p : Outcome Word) → count_in p ≡ n → (count_in o ≡ n) ↔ (o ≡ p)
      clash o m n e ne p f = ((λ z. absurd (ne (sym e ∙ z))), λ z. absurd (ne (sym e ∙ ap count_in z ∙ f)))

      mended : (v : Word) → Told (Mended v 1)
      mended v = (
        clash (Mended v 1) 1 0 refl (λ z. absurd (omega arith)) (Clean w) refl,
        clash (Mended v 1) 1 255 refl (λ z. absurd (omega arith)) Far refl,
      )

      go : (b₀ b₁ b₂ : Bool) → Told (tested w (column_place (units c) s) (column_place cols s) b₀ b₁ b₂)
      go true b₁ b₂ = (((λ _. refl), λ _. refl), clash (Clean w) 0 255 refl (λ z. absurd (omega (arith, z))) Far refl)
      go false true b₂ = mended (with_check w (column_place (units c) s))
      go false false true = mended (with_data w (column_place cols s))
      go false false false = (clash Far 255 0 refl (λ z. absurd (omega (arith, z))) (Clean w) refl, ((λ _. refl), λ _. refl))

-- ---- what is promised

pub encoded_by : (c : ℕ) (cols : List ℕ) → Inside c cols → {x r : ℕ} → x < 2 ^ length cols → r ≡ encode cols x → EncodedBy c cols x r
encoded_by c cols f {x} h e = record {
  sum = e;
  codeword = rw e (encoded-codeword c cols f x h);
  only = λ b B. check_is c cols (record { check = b; info = x }) B ∙ sym e;
}

pub decoded_by : (c : ℕ) (cols : List ℕ) → OddColumns c cols → SplitMinimumDistance c cols 4 → (w : Word) → SplitPlaces c cols (split w)
    → DecodedBy c cols w (corrected (outcome_by c cols w) w)
decoded_by c cols K m w P = record {
  word = refl;
  count = refl;
  minimum = m;
  within = radius-one c cols K w P;
  clean = (told c cols w (split_syndrome c cols (split w))).0;
  far = (told c cols w (split_syndrome c cols (split w))).1;
}
