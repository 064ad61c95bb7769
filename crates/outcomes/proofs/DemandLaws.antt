-- Laws of how a word ends: demand 3 holds of the outcome with the leader of its syndrome.
use mathlib.Core.Path.{◌≡◌, refl, sym, ap, ◌∙◌}
use mathlib.Core.Logic.{◌↔◌}
use mathlib.Core.List.{List}
use mathlib.Core.Bool.{Bool, true, false}
use Prim.Native.Nat.{ℕ, ◌+◌, ◌*◌, ◌^◌, ◌≤◌, ◌<◌}
use native.Mathlib.Nat.{le_trans}
use native.Mathlib.Decide.{ℕ_discrete, dec_le}
use native.Mathlib.Omega.{arith}
use lib.Bits.{xor_zero_r}
use borrow.Author.Tests.{eq-eqb, ne_eqb, le-leb, lt-leb}
use Rattle.coding.specs.Word.{◌⊕◌, weight, distance}
use Rattle.coding.specs.Matrix.{Codeword}
use Rattle.coding.specs.Weight.{dmin}
use Rattle.coding.specs.Leader.{syndrome_of, leader_of}
use Rattle.coding.proofs.LeaderLaws.{nearest_of, near_is}
use Rattle.coding.specs.Radius.{NearestRule, RadiusRules}
use Rattle.coding.proofs.WordLaws.{xor_cancel}
use Rattle.coding.proofs.WeightLaws.{weight_none, distance_sym, distance_tri}
use Rattle.coding.proofs.DistanceLaws.{codeword-apart}
use Rattle.coding.proofs.RadiusLaws.{one-within, radius_rules}
use Rattle.words.specs.Accepted.{Accepted}
use Rattle.words.proofs.CodeLaws.{syndrome-below, light}
use Rattle.outcomes.specs.Outcome.{takes, outcome_of, word_in, count_in, decoded_as, word_of, count_of}
use Rattle.outcomes.specs.declared.ending.Reading.{Reading}
use Rattle.outcomes.specs.declared.ending.Reading.TheVariants.{Nearest, Within}
use Rattle.outcomes.specs.declared.ending.Outcome.{Outcome}
use Rattle.outcomes.specs.declared.ending.Outcome.TheVariants.{Clean, Mended, Far}

-- ---- the outcome of a word w with the leader e

module _ (reading : Reading) (w e : ℕ) where
  -- one that the reading takes
  outcome_taken : takes reading (weight e) ≡ true → (word_in (outcome_of reading w e) w ≡ w ⊕ e) × (count_in (outcome_of reading w e) ≡ weight e)
  outcome_taken t = go (ℕ_discrete (weight e) 0)
    where
      go : Dec (weight e ≡ 0) → (word_in (outcome_of reading w e) w ≡ w ⊕ e) × (count_in (outcome_of reading w e) ≡ weight e)
      go (yes z) =
          let c : outcome_of reading w e ≡ Clean w = simp (eq-eqb (weight e) 0 z) in
          (ap (λ (o : Outcome ℕ). word_in o w) c ∙ sym (ap (λ (x : ℕ). w ⊕ x) (weight_none e z) ∙ xor_zero_r w), ap count_in c ∙ sym z)
      go (no ne) =
          let c : outcome_of reading w e ≡ Mended (w ⊕ e) (weight e) = simp (ne_eqb (weight e) 0 ne, t) in
          (ap (λ (o : Outcome ℕ). word_in o w) c, ap count_in c)

  -- clean exactly when the count is 0, where far is 255
  outcome_clean : (count_in (outcome_of reading w e) ≡ 0) ↔ (outcome_of reading w e ≡ Clean w)
  outcome_clean = go (ℕ_discrete (weight e) 0) (takes reading (weight e)) refl
    where
      go : Dec (weight e ≡ 0) → (b : Bool) → takes reading (weight e) ≡ b → (count_in (outcome_of reading w e) ≡ 0) ↔ (outcome_of reading w e ≡ Clean w)
      go (yes z) b q = let c : outcome_of reading w e ≡ Clean w = simp (eq-eqb (weight e) 0 z) in (λ _. c, λ _. ap count_in c)
      go (no ne) true q =
          let c : outcome_of reading w e ≡ Mended (w ⊕ e) (weight e) = simp (ne_eqb (weight e) 0 ne, q) in
          (λ h. absurd (ne (sym (ap count_in c) ∙ h)), λ h. ap count_in h)
      go (no ne) false q =
          let c : outcome_of reading w e ≡ Far = simp (ne_eqb (weight e) 0 ne, q) in
          (λ h. absurd (omega (arith, sym (ap count_in c) ∙ h)), λ h. ap count_in h)

-- one beyond the radius
outcome_far : (r w e : ℕ) → r < weight e → outcome_of (Within r) w e ≡ Far
outcome_far r w e h = simp (ne_eqb (weight e) 0 (λ z. absurd (omega (arith, h, z))), lt-leb (weight e) r h)

module _ (n k : ℕ) (rows : List ℕ) (A : Accepted n k rows) where
  -- ---- demand 3

  module _ (w : ℕ) (h : w < 2 ^ n) where
    near : NearestRule ℕ (Codeword rows) distance w (nearest_of n rows w) (distance w (nearest_of n rows w))
    near = let (c, d, f) = near_is n rows A.inside w h in record { codeword = c; counted = refl; nearest = f }

    near_count : distance w (nearest_of n rows w) ≡ weight (leader_of n rows (syndrome_of n rows w))
    near_count = (near_is n rows A.inside w h).1

    pub nearest_rule : NearestRule ℕ (Codeword rows) distance w (word_of n rows Nearest w) (count_of n rows Nearest w)
    nearest_rule =
        let (a, b) = outcome_taken Nearest w (leader_of n rows (syndrome_of n rows w)) refl in
        let d : count_of n rows Nearest w ≡ distance w (nearest_of n rows w) = b ∙ sym near_count in
        record {
          codeword = rw a near.codeword;
          counted = d ∙ ap (distance w) (sym a);
          nearest = λ c cc. rw d (near.nearest c cc);
        }

    pub radius_rule : (r : ℕ) → 2 * r + 1 ≤ dmin rows
        → RadiusRules ℕ (Codeword rows) distance (dmin rows) r w (word_of n rows (Within r) w) (count_of n rows (Within r) w) (count_of n rows (Within r) w ≡ 255)
    radius_rule r a =
        radius_rules ℕ ℕ_discrete distance distance_sym distance_tri (Codeword rows) (dmin rows) (codeword-apart rows) r a w (nearest_of n rows w) near
        (word_of n rows (Within r) w) (count_of n rows (Within r) w) (count_of n rows (Within r) w ≡ 255) (to, from) kept
      where
        taken : weight (leader_of n rows (syndrome_of n rows w)) ≤ r
            → (word_of n rows (Within r) w ≡ nearest_of n rows w) × (count_of n rows (Within r) w ≡ weight (leader_of n rows (syndrome_of n rows w)))
        taken q = outcome_taken (Within r) w (leader_of n rows (syndrome_of n rows w)) (le-leb (weight (leader_of n rows (syndrome_of n rows w))) r q)

        small : weight (leader_of n rows (syndrome_of n rows w)) < 255
        small = omega (arith, light n k rows A (syndrome_of n rows w) (syndrome-below n k rows A w), A.range.checks)

        to : count_of n rows (Within r) w ≡ 255 → r < distance w (nearest_of n rows w)
        to q = go (dec_le (weight (leader_of n rows (syndrome_of n rows w))) r)
          where
            go : Dec (weight (leader_of n rows (syndrome_of n rows w)) ≤ r) → r < distance w (nearest_of n rows w)
            go (yes l) = absurd (omega (arith, (taken l).1, q, small))
            go (no l) = omega (arith, near_count)

        from : r < distance w (nearest_of n rows w) → count_of n rows (Within r) w ≡ 255
        from q = ap count_in (outcome_far r w (leader_of n rows (syndrome_of n rows w)) (rw near_count at q))

        kept : (count_of n rows (Within r) w ≡ 255 → ⊥)
            → (word_of n rows (Within r) w ≡ nearest_of n rows w) × (count_of n rows (Within r) w ≡ distance w (nearest_of n rows w))
        kept f = go (dec_le (weight (leader_of n rows (syndrome_of n rows w))) r)
          where
            go : Dec (weight (leader_of n rows (syndrome_of n rows w)) ≤ r)
                → (word_of n rows (Within r) w ≡ nearest_of n rows w) × (count_of n rows (Within r) w ≡ distance w (nearest_of n rows w))
            go (yes l) = ((taken l).0, (taken l).1 ∙ sym near_count)
            go (no l) = absurd (f (from (omega (arith, near_count))))

    -- whoever finds an error pattern of at most r places that leads to a codeword has the outcome within r
    pub outcome_found : (r : ℕ) → 2 * r + 1 ≤ dmin rows → (e : ℕ) → Codeword rows (w ⊕ e) → weight e ≤ r
        → outcome_of (Within r) w e ≡ decoded_as n rows (Within r) w
    outcome_found r a e c l =
        let d : distance w (w ⊕ e) ≡ weight e = ap weight (xor_cancel w e) in
        let same : w ⊕ e ≡ nearest_of n rows w
        = one-within ℕ ℕ_discrete distance distance_sym distance_tri (Codeword rows) (dmin rows) (codeword-apart rows) r w (w ⊕ e) (nearest_of n rows w) a c
        near.codeword (omega (arith, d, l)) (le_trans (near.nearest (w ⊕ e) c) (omega (arith, d, l))) in
        ap (outcome_of (Within r) w)
        (sym (xor_cancel w e) ∙ ap (λ (x : ℕ). w ⊕ x) same ∙ xor_cancel w (leader_of n rows (syndrome_of n rows w)))

    -- and where no codeword is within r, the outcome of any heavier pattern
    pub outcome_none : (r e : ℕ) → r < weight e → ((c : ℕ) → Codeword rows c → r < distance w c)
        → outcome_of (Within r) w e ≡ decoded_as n rows (Within r) w
    outcome_none r e l f =
        outcome_far r w e l
        ∙ sym (outcome_far r w (leader_of n rows (syndrome_of n rows w)) (rw near_count at (f (nearest_of n rows w) near.codeword)))

  pub clean_rule : (reading : Reading) (w : ℕ) → (count_of n rows reading w ≡ 0) ↔ (decoded_as n rows reading w ≡ Clean w)
  clean_rule reading w = outcome_clean reading w (leader_of n rows (syndrome_of n rows w))
