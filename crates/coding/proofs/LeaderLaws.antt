-- Laws of the coset leaders: every syndrome of a matrix has a leader, of weight at most n - k, and a word plus the leader of its syndrome is a
-- nearest codeword. Assumes nothing.
use mathlib.Core.Path.{◌≡◌, sym, ap, ◌∙◌}
use mathlib.Core.Logic.{◌↔◌}
use mathlib.Core.List.{List}
use mathlib.Core.Option.{Option, none, some}
use Prim.Native.Nat.{ℕ, ◌^◌, ◌≤◌, ◌<◌}
use native.Mathlib.Nat.{le_trans}
use lib.Dec.{T, eqb→eq, eqb_refl}
use lib.ListN.{length, length-map}
use lib.Bits.{xor_self, xor_lt}
use lib.Count.{ones-le}
use Rattle.coding.specs.Word.{◌⊕◌, weight, distance}
use Rattle.coding.specs.Matrix.{Codeword, Inside}
use Rattle.coding.specs.Reduce.{reduce}
use Rattle.coding.specs.Check.{check, checks, frees}
use Rattle.coding.specs.Leader.{syndrome_of, IsLeader, no_leader, having, leader_of}
use Rattle.coding.specs.Lightest.{lightest_below, or_else}
use Rattle.coding.proofs.WordLaws.{xor-eq}
use Rattle.coding.proofs.MatrixLaws.{codeword-lt}
use Rattle.coding.proofs.CheckLaws.{syndrome-xor, syndrome-lt}
use Rattle.coding.proofs.ReduceLaws.{whole}
use Rattle.coding.proofs.CheckRowLaws.{syndrome-codeword}
use Rattle.coding.proofs.LightestLaws.{IsLightest, Found, found, nearest}
use Rattle.coding.proofs.SpreadLaws.{spread, spread-lt, spread_light, syndrome-spread}

-- 01, part 5, nearest reading: the received word plus the leader of its syndrome
abbrev pub nearest_of : ℕ → List ℕ → ℕ → ℕ
nearest_of n rows w = w ⊕ leader_of n rows (syndrome_of n rows w)

module _ (n : ℕ) (rs : List ℕ) (fits : Inside n rs) where
  -- every syndrome has a leader, no heavier than the syndrome
  pub leader_lightest : (s : ℕ) → s < 2 ^ length (frees n rs) → IsLightest (having (syndrome_of n rs) s) (2 ^ n) (leader_of n rs s)
  leader_lightest s h = go (lightest_below (having (syndrome_of n rs) s) (2 ^ n)) (found (having (syndrome_of n rs) s) (2 ^ n))
    where
      in_n : spread (reduce n rs) s < 2 ^ n
      in_n = rw (whole n rs fits).reduced.size at (spread-lt (reduce n rs) s)

      passes : T (having (syndrome_of n rs) s (spread (reduce n rs) s))
      passes = rw (syndrome-spread (reduce n rs) s h) (eqb_refl s)

      go : (o : Option ℕ) → Found (having (syndrome_of n rs) s) (2 ^ n) o → IsLightest (having (syndrome_of n rs) s) (2 ^ n) (or_else no_leader o)
      go none f = absurd (f (spread (reduce n rs) s) in_n passes)
      go (some l) f = f

  pub leader_light : (s : ℕ) → s < 2 ^ length (frees n rs) → weight (leader_of n rs s) ≤ length (frees n rs)
  leader_light s h =
      le_trans ((leader_lightest s h).light (spread (reduce n rs) s)
      (rw (whole n rs fits).reduced.size at (spread-lt (reduce n rs) s)) (rw (syndrome-spread (reduce n rs) s h) (eqb_refl s)))
      (le_trans (spread_light (reduce n rs) s) (ones-le (length (frees n rs)) s h))

  pub syndrome_of-lt : (w : ℕ) → syndrome_of n rs w < 2 ^ length (frees n rs)
  syndrome_of-lt w = rw (length-map (frees n rs) (check (reduce n rs))) at (syndrome-lt (checks n rs) w)

  pub near_is : (w : ℕ) → w < 2 ^ n
      → Codeword rs (nearest_of n rs w) × (distance w (nearest_of n rs w) ≡ weight (leader_of n rs (syndrome_of n rs w)))
      × ((c : ℕ) → Codeword rs c → distance w (nearest_of n rs w) ≤ distance w c)
  near_is w h =
      nearest n (syndrome_of n rs) (syndrome-xor (checks n rs)) (Codeword rs)
      (λ v l e. (syndrome-codeword n rs fits v l).0 e)
      (λ v c. let h = codeword-lt n rs fits v c in (h, (syndrome-codeword n rs fits v h).1 c))
      w (leader_of n rs (syndrome_of n rs w)) h (leader_lightest (syndrome_of n rs w) (syndrome_of-lt w))

  -- two words have the same syndrome exactly when they stand in the same row of the standard array
  pub same_coset : (a b : ℕ) → a < 2 ^ n → b < 2 ^ n → (syndrome_of n rs b ≡ syndrome_of n rs a) ↔ Codeword rs (a ⊕ b)
  same_coset a b ha hb =
      let C = syndrome-codeword n rs fits (a ⊕ b) (xor_lt n a b ha hb) in (
        λ e. C.0 (syndrome-xor (checks n rs) a b ∙ ap (λ (x : ℕ). syndrome_of n rs a ⊕ x) e ∙ xor_self (syndrome_of n rs a)),
        λ c. sym (xor-eq (syndrome_of n rs a) (syndrome_of n rs b) (sym (syndrome-xor (checks n rs) a b) ∙ C.1 c)),
      )

  -- the leader that the definition finds is the leader
  pub leader_is : (s : ℕ) → s < 2 ^ length (frees n rs) → IsLeader n rs s (leader_of n rs s)
  leader_is s h =
      let f = leader_lightest s h in
      record {
        below = f.below;
        has = eqb→eq (syndrome_of n rs (leader_of n rs s)) s f.passes;
        coset = λ v l. rw (eqb→eq (syndrome_of n rs (leader_of n rs s)) s f.passes) at (same_coset (leader_of n rs s) v f.below l);
        lightest = λ v l e. f.light v l (rw e (eqb_refl s));
        smallest = λ v l e q. f.first v l (rw e (eqb_refl s)) q;
      }
