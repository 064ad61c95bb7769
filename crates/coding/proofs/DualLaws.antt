-- The MacWilliams identity: the weights of a code's words, from those of the sums of its check rows. A word that is no codeword fails
-- half of those sums, and a codeword none. Assumes nothing.
use mathlib.Core.Path.{◌≡◌, refl, sym, ap, ap₂, ◌∙◌}
use mathlib.Core.Logic.{◌≢◌}
use mathlib.Core.List.{List, [], ◌∷◌}
use mathlib.Core.Bool.{Bool, true, false, cond, ◌&&◌}
use Prim.Native.Nat.{ℕ, zero, suc, ◌+◌, ◌-◌, ◌*◌, ◌/◌, ◌%◌, ◌^◌, ◌≤◌, ◌<◌, min, suc-le-suc}
use native.Mathlib.Decide.{dec_le}
use native.Mathlib.Nat.{pow-suc}
use native.Mathlib.Omega.{arith}
use lib.Dec.{eqb}
use lib.ListN.{length, get_or, length-map}
use lib.Pow.{pow_pos}
use lib.Count.{ones-le}
use borrow.Author.Tests.{eqb-true, eqb-false, eq-eqb, ne_eqb}
use Rattle.coding.specs.Word.{bit, weight, parity}
use Rattle.coding.specs.Matrix.{sel, encode, Codeword, is_codeword, Inside, Independent}
use Rattle.coding.specs.Reduce.{reduce}
use Rattle.coding.specs.Check.{check, syndrome, frees, checks}
use Rattle.coding.specs.Weight.{count, weight_count}
use Rattle.coding.specs.Dual.{sum_below, sums_of_weight, sharing, overlaps, overlap_sum, MacWilliams}
use Rattle.coding.proofs.WordLaws.{bit_of_zero, half_lt, ext}
use Rattle.coding.proofs.WeightLaws.{parity-pow, parity-lt, parity-zero, parity-xor_r, parity_step}
use Rattle.coding.proofs.MatrixLaws.{encode-lt, codeword-lt}
use Rattle.coding.proofs.CheckLaws.{encode-place, column_unit, syndrome-lt}
use Rattle.coding.proofs.CheckRowLaws.{free_places, check_rows, syndrome-codeword}
use Rattle.coding.proofs.SearchLaws.{codeword-test, true_false}
use Rattle.coding.proofs.CountLaws.{count_same}
use Rattle.coding.proofs.WeightCountLaws.{weight_count_messages}
use Rattle.coding.proofs.SumLaws.{sum_same, sum-add, sum-count, sum_swap, sum_by_value}
use Rattle.coding.proofs.OverlapLaws.{turned, parity_halves, sharing-overlaps}

-- ---- a word and a sum of check rows

-- the parity of a word with a sum of rows is that of the message with the word's syndrome
pub parity-sum : (hs : List ℕ) (x v : ℕ) → parity x (encode hs v) ≡ parity v (syndrome hs x)
parity-sum [] x v = parity-zero x ∙ sym (parity-zero v)
parity-sum (h ∷ hs) x v =
    parity-xor_r x (sel (v % 2) h) (encode hs (v / 2))
    ∙ ap₂ (λ (a b : ℕ). (a + b) % 2) (digit (v % 2) (omega arith)) (parity-sum hs x (v / 2))
    ∙ sym (parity_step v (parity x h + 2 * syndrome hs x)
    ∙ ap₂ (λ (a b : ℕ). (min (v % 2) a + parity (v / 2) b) % 2) (odd (parity x h) (syndrome hs x) (parity-lt x h))
    (half (parity x h) (syndrome hs x) (parity-lt x h)))
  where
    half : (p s : ℕ) → p < 2 → (p + 2 * s) / 2 ≡ s
    half p s l = omega arith

    odd : (p s : ℕ) → p < 2 → (p + 2 * s) % 2 ≡ p
    odd p s l = omega arith

    digit : (c : ℕ) → c < 2 → parity x (sel c h) ≡ min c (parity x h)
    digit zero l = parity-zero x ∙ omega arith
    digit (suc zero) l = omega (arith, parity-lt x h)
    digit (suc (suc c)) l = absurd (omega arith)

-- by the lowest place of the message
odd_halves : (c m s d : ℕ) → c < 2 → s % 2 ≡ d → count (λ v. eqb (parity v s) c) (2 ^ suc m)
    ≡ count (λ v. eqb (parity v (s / 2)) c) (2 ^ m) + count (λ v. eqb (parity v (s / 2)) (turned c d)) (2 ^ m)
odd_halves c m s d h e =
    parity_halves (λ x. true) c m s h
    ∙ ap (λ (x : ℕ). count (λ v. eqb (parity v (s / 2)) c) (2 ^ m) + count (λ v. eqb (parity v (s / 2)) (turned c x)) (2 ^ m)) e

-- with a syndrome that is not 0 half of the messages are odd, and with 0 none
pub balanced : (m s : ℕ) → s < 2 ^ m
    → count (λ v. eqb (parity v s) 0) (2 ^ m) ≡ count (λ v. eqb (parity v s) 1) (2 ^ m) + cond (eqb s 0) (2 ^ m) 0
balanced zero s h =
    let z : s ≡ 0 = omega arith in
    rw z (rw (parity-zero 0) refl)
balanced (suc m) s h = go (s % 2) refl (balanced m (s / 2) (half_lt m h))
  where
    same : s % 2 ≡ 0 → (b : Bool) → eqb (s / 2) 0 ≡ b → eqb s 0 ≡ b
    same e true t = let z : s / 2 ≡ 0 = eqb-true (s / 2) 0 t in eq-eqb s 0 (omega arith)
    same e false t = let ne : s / 2 ≡ 0 → ⊥ = eqb-false (s / 2) 0 t in ne_eqb s 0 (λ k. absurd (omega arith))

    twice : (b : Bool) → cond b (2 ^ suc m) 0 ≡ 2 * cond b (2 ^ m) 0
    twice true = omega (arith, pow-suc 2 m)
    twice false = refl

    go : (d : ℕ) → s % 2 ≡ d
        → count (λ v. eqb (parity v (s / 2)) 0) (2 ^ m) ≡ count (λ v. eqb (parity v (s / 2)) 1) (2 ^ m) + cond (eqb (s / 2) 0) (2 ^ m) 0
        → count (λ v. eqb (parity v s) 0) (2 ^ suc m) ≡ count (λ v. eqb (parity v s) 1) (2 ^ suc m) + cond (eqb s 0) (2 ^ suc m) 0
    go zero e ih =
        rw (same e (eqb (s / 2) 0) refl)
        (omega (arith, odd_halves 0 m s 0 (omega arith) e, odd_halves 1 m s 0 (omega arith) e, twice (eqb (s / 2) 0)))
    go (suc d) e ih =
        rw (ne_eqb s 0 (λ k. absurd (omega arith)))
        (omega (arith, odd_halves 0 m s (suc d) (omega arith) e, odd_halves 1 m s (suc d) (omega arith) e))

-- ---- the identity

module _ (n : ℕ) (rows : List ℕ) (fits : Inside n rows) where
  -- the sums of the check rows by parity with a word
  dual_balanced : (x : ℕ) → x < 2 ^ n
      → count (λ v. eqb (parity x (encode (checks n rows) v)) 0) (2 ^ length (checks n rows))
      ≡ count (λ v. eqb (parity x (encode (checks n rows) v)) 1) (2 ^ length (checks n rows))
      + cond (is_codeword rows x) (2 ^ length (checks n rows)) 0
  dual_balanced x h =
      let H = checks n rows in
      let M = 2 ^ length (checks n rows) in
      count_same _ _ M (λ v l. ap (λ (d : ℕ). eqb d 0) (parity-sum H x v))
      ∙ balanced (length H) (syndrome H x) (syndrome-lt H x)
      ∙ ap₂ (λ (a : ℕ) (b : Bool). a + cond b M 0)
      (count_same _ _ M (λ v l. ap (λ (d : ℕ). eqb d 1) (sym (parity-sum H x v))))
      (same (is_codeword rows x) refl)
    where
      same : (b : Bool) → is_codeword rows x ≡ b → eqb (syndrome (checks n rows) x) 0 ≡ b
      same true t = eq-eqb (syndrome (checks n rows) x) 0 ((syndrome-codeword n rows fits x h).1 ((codeword-test rows x).0 t))
      same false t =
          ne_eqb (syndrome (checks n rows) x) 0 (λ e. true_false ((codeword-test rows x).1 ((syndrome-codeword n rows fits x h).0 e)) t)

  -- the check rows are words of n places
  pub checks-inside : Inside n (checks n rows)
  checks-inside i h = (check_rows n rows fits i (rw (length-map (frees n rows) (check (reduce n rows))) at h)).inside

  -- words of weight j and sums of check rows of parity c, counted by the words and by the sums
  paired : (c j : ℕ) → c < 2
      → sum_below (λ x. cond (eqb (weight x) j) (count (λ v. eqb (parity x (encode (checks n rows) v)) c) (2 ^ length (checks n rows))) 0) (2 ^ n)
      ≡ overlap_sum c n (checks n rows) j
  unfolding sharing sums_of_weight
  paired c j h =
      let H = checks n rows in
      let M = 2 ^ length (checks n rows) in
      let light : (v : ℕ) → weight (encode (checks n rows) v) ≤ n =
      λ v. ones-le n (encode (checks n rows) v) (encode-lt n (checks n rows) checks-inside v) in
      sum_swap (λ x. eqb (weight x) j) (λ x v. eqb (parity x (encode H v)) c) (2 ^ n) M
      ∙ sum_same (λ v. sharing c n j (encode H v)) (λ v. overlaps c (n - weight (encode H v)) (weight (encode H v)) j) M
      (λ v l. sharing-overlaps n (encode H v) (encode-lt n H checks-inside v) c j (n - weight (encode H v)) (weight (encode H v)) h
      (less n (weight (encode H v)) (light v)) refl)
      ∙ sum_by_value (λ v. weight (encode H v)) (λ i. overlaps c (n - i) i j) (suc n) M (λ v l. suc-le-suc (light v))
    where
      less : (n i : ℕ) → i ≤ n → n - i + i ≡ n
      less n i h = omega arith

  -- 2 ^ (n - k) times the codewords of weight j, and the odd overlaps, are the even overlaps
  pub macwilliams : (j : ℕ) → 2 ^ length (checks n rows) * weight_count n rows j + overlap_sum 1 n (checks n rows) j ≡ overlap_sum 0 n (checks n rows) j
  unfolding weight_count
  macwilliams j =
      let H = checks n rows in
      let M = 2 ^ length (checks n rows) in
      ap₂ ◌+◌ (sym (sum-count M (λ x. is_codeword rows x && eqb (weight x) j) (2 ^ n))) (sym (paired 1 j (omega arith)))
      ∙ sym (sum-add (λ x. cond (is_codeword rows x && eqb (weight x) j) M 0)
      (λ x. cond (eqb (weight x) j) (count (λ v. eqb (parity x (encode H v)) 1) M) 0) (2 ^ n))
      ∙ sum_same _ _ (2 ^ n) (λ x l. go (is_codeword rows x) (eqb (weight x) j) M _ _ (dual_balanced x l))
      ∙ paired 0 j (omega arith)
    where
      go : (b t : Bool) (M e o : ℕ) → e ≡ o + cond b M 0 → cond (b && t) M 0 + cond t o 0 ≡ cond t e 0
      go true true M e o h = omega arith
      go true false M e o h = refl
      go false true M e o h = omega arith
      go false false M e o h = refl

  -- ---- the same of the dual code, whose words are the sums of the check rows

  -- each check row alone has a one at its own place
  pub checks-independent : Independent (checks n rows)
  checks-independent u h e =
      ext (length (checks n rows)) h (pow_pos (length (checks n rows)))
      (λ p l. sym (at p l) ∙ ap (λ (x : ℕ). bit x (get_or (frees n rows) p 0)) e ∙ bit_of_zero (get_or (frees n rows) p 0) ∙ sym (bit_of_zero p))
    where
      long : length (checks n rows) ≡ length (frees n rows)
      long = length-map (frees n rows) (check (reduce n rows))

      apart : (i p : ℕ) → i < length (frees n rows) → p < length (frees n rows) → i ≢ p → get_or (frees n rows) p 0 ≢ get_or (frees n rows) i 0
      apart i p h l ne q = go (dec_le (suc i) p)
        where
          go : Dec (i < p) → ⊥
          go (yes k) = omega (arith, (free_places n rows fits).rise i p k l, q)
          go (no k) = omega (arith, (free_places n rows fits).rise p i (omega arith) h, q)

      at : (p : ℕ) → p < length (checks n rows) → bit (encode (checks n rows) u) (get_or (frees n rows) p 0) ≡ bit u p
      at p l =
          let q = get_or (frees n rows) p 0 in
          let k : p < length (frees n rows) = rw long at l in
          encode-place (checks n rows) u q
          ∙ ap (parity u) (column_unit (checks n rows) p q l
          (λ i b ne. (check_rows n rows fits i (rw long at b)).at_others p k (apart i p (rw long at b) k ne)) (check_rows n rows fits p k).own)
          ∙ parity-pow u p

  pub sums_dual : (i : ℕ) → sums_of_weight (checks n rows) i ≡ weight_count n (checks n rows) i
  unfolding sums_of_weight
  sums_dual i = sym (weight_count_messages n (checks n rows) checks-inside checks-independent i)

  -- the identity in the weight counts of both codes
  macwilliams_dual : (j : ℕ) → 2 ^ length (checks n rows) * weight_count n rows j
      + sum_below (λ i. weight_count n (checks n rows) i * overlaps 1 (n - i) i j) (suc n)
      ≡ sum_below (λ i. weight_count n (checks n rows) i * overlaps 0 (n - i) i j) (suc n)
  macwilliams_dual j =
      ap (λ (x : ℕ). 2 ^ length (checks n rows) * weight_count n rows j + x) (sym (by 1)) ∙ macwilliams j ∙ by 0
    where
      by : (c : ℕ) → overlap_sum c n (checks n rows) j ≡ sum_below (λ i. weight_count n (checks n rows) i * overlaps c (n - i) i j) (suc n)
      by c = sum_same _ _ (suc n) (λ i l. ap (λ (x : ℕ). x * overlaps c (n - i) i j) (sums_dual i))

  -- the check rows generate the dual code
  orthogonal : (x y : ℕ) → Codeword rows x → Codeword (checks n rows) y → parity x y ≡ 0
  orthogonal x y C (v, h, e) =
      rw e (parity-sum (checks n rows) x v
      ∙ ap (parity v) ((syndrome-codeword n rows fits x (codeword-lt n rows fits x C)).1 C) ∙ parity-zero v)

  pub macwilliams_is : length (checks n rows) + length rows ≡ n → MacWilliams n rows (checks n rows)
  macwilliams_is d = record {
    dual = record { inside = checks-inside; independent = checks-independent; orthogonal = orthogonal; dimension = d };
    coefficients = λ c y j h l.
        sharing-overlaps n y l c j (n - weight y) (weight y) h (less n (weight y) (ones-le n y l)) refl;
    identity = macwilliams_dual;
  }
    where
      less : (n i : ℕ) → i ≤ n → n - i + i ≡ n
      less n i h = omega arith
