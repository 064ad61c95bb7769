-- Laws of one block of the walk: its words are counted, the smallest of those of the least weight is found, and the walk has gone on
-- over the block.
use mathlib.Core.Path.{◌≡◌, refl, sym, ap, ap₂, ◌∙◌}
use mathlib.Core.Logic.{◌≢◌, ◌⊎◌, inl, inr, ⊎_elim}
use mathlib.Core.List.{List, map}
use mathlib.Core.Bool.{Bool, true, false, not, cond}
use Prim.Native.Nat.{ℕ, zero, suc, ◌+◌, ◌-◌, ◌≤◌, ◌<◌, ◌^◌, min}
use native.Mathlib.Nat.{le_refl, le_trans}
use native.Mathlib.Decide.{dec_le, ℕ_discrete}
use native.Mathlib.Omega.{arith}
use lib.Dec.{eqb, ltb}
use lib.ListN.{length, get_or, length-map}
use lib.Bits.{xor_lt}
use lib.Count.{ones-le}
use borrow.Author.Count.{below_more}
use borrow.Author.Tests.{eq-eqb, ne_eqb, eqb-true, eqb-false, not-true, not-false, lt-ltb, le-ltb, ltb-true, ltb-false}
use Rattle.coding.specs.Lists.{first}
use Rattle.coding.specs.Word.{◌⊕◌, weight, distance}
use Rattle.coding.specs.Matrix.{encode}
use Rattle.coding.specs.Weight.{count}
use Rattle.coding.proofs.ListLaws.{get_d_map}
use Rattle.coding.proofs.SearchLaws.{first_is, first-le, first_hit, first-before}
use Rattle.coding.proofs.CountLaws.{count_same, count_add, count-le, count_some, count-found}
use Rattle.walk.specs.Walked.{least_of, some_least, SmallestOf, SmallestMet, Walked}
use Rattle.walk.specs.Inner.Block.{Tallied, Kept, BlockWalked}
use Rattle.walk.specs.declared.walk.Walk.{Walk}
use Rattle.walk.specs.declared.walk.Lightest.{Lightest}
use Rattle.std.specs.Prelude.{Option, Some, None, IfSome, MatchOption}
use Rattle.std.specs.Option.{option_map, unwrap_or}

-- weight i + 1 has been counted
abbrev pub counted : List ℕ → ℕ → Bool
counted counts i = not (eqb (get_or counts (suc i) 0) 0)

-- the least weight counted, from what the search over the counts has passed
pub least-found : (counts : List ℕ) (j : ℕ) → 1 ≤ j → j ≤ 33 → ((i : ℕ) → 1 ≤ i → i < j → get_or counts i 0 ≡ 0)
    → (j < 33 → get_or counts j 0 ≢ 0) → j ≡ least_of counts
least-found counts zero h k f g = absurd (omega arith)
least-found counts (suc j) h k f g =
    ap suc (sym (first_is (counted counts) 32 j (omega arith)
    (λ i l. ap not (eq-eqb (get_or counts (suc i) 0) 0 (f (suc i) (omega arith) (omega arith))))
    (λ l. ap not (ne_eqb (get_or counts (suc j) 0) 0 (g (omega arith))))))

-- ---- the counts, one word after the other

-- the words before i have been counted
pub record Tallying (weights counts₀ : List ℕ) (i : ℕ) (counts : List ℕ) : Type 0 where
  pub light : (k : ℕ) → k < length weights → get_or weights k 0 < 33
  pub room : (j : ℕ) → get_or counts₀ j 0 + length weights < 2 ^ 32
  pub upto : i ≤ length weights
  pub size : length counts ≡ 33
  pub grown : (j : ℕ) → get_or counts j 0 ≡ get_or counts₀ j 0 + count (λ k. eqb (get_or weights k 0) j) i

module _ {ws counts₀ : List ℕ} {i : ℕ} {counts : List ℕ} (T : Tallying ws counts₀ i counts) where
  module _ (h : i < length ws) where
    pub tally_fits : get_or counts (get_or ws i 0) 0 + 1 < 2 ^ 32
    tally_fits =
        let w = get_or ws i 0 in
        omega (arith, T.grown w, T.room w, count-le (λ k. eqb (get_or ws k 0) w) i)

-- ---- the least weight counted, where there is one

pub least_some : (counts : List ℕ) (j : ℕ) → j ≡ least_of counts → j < 33 → Some j ≡ some_least counts
least_some counts j e h = rw (← e, lt-ltb j 33 h) refl

pub least_none : (counts : List ℕ) → 33 ≤ least_of counts → None ≡ some_least counts
least_none counts h = rw (le-ltb (least_of counts) 33 h) refl

pub some_least_is : (counts : List ℕ) (j : ℕ) → Some j ≡ some_least counts → (j ≡ least_of counts) × (j < 33)
some_least_is counts j e = go (ltb (least_of counts) 33) refl e
  where
    go : (b : Bool) → ltb (least_of counts) 33 ≡ b → Some j ≡ cond b (Some (least_of counts)) None → (j ≡ least_of counts) × (j < 33)
    go true l z = let same : j ≡ least_of counts = cc in (same, omega (arith, ltb-true (least_of counts) 33 l))
    go false l z = absurd cc

pub no_least : (counts : List ℕ) → None ≡ some_least counts → 33 ≤ least_of counts
no_least counts e = go (ltb (least_of counts) 33) refl e
  where
    go : (b : Bool) → ltb (least_of counts) 33 ≡ b → None ≡ cond b (Some (least_of counts)) None → 33 ≤ least_of counts
    go true l z = absurd cc
    go false l z = ltb-false (least_of counts) 33 l

-- ---- the smallest of a block's words of one weight, one word after the other

module _ {block : List ℕ} {base : ℕ} {ws : List ℕ} {w m r : ℕ} (S : SmallestOf block base ws w m r) where
  -- one word more is looked at; x is no larger than the one found, nor than this one where it has the weight
  each_to : (x : ℕ) → x ≤ r → (get_or ws m 0 ≡ w → x ≤ get_or block m 0 ⊕ base)
      → (i : ℕ) → i < m + 1 → get_or ws i 0 ≡ w → x ≤ get_or block i 0 ⊕ base
  each_to x h f = below_more (λ i. get_or ws i 0 ≡ w → x ≤ get_or block i 0 ⊕ base) m (λ i l q. le_trans h (S.each i l q)) f

  pub smallest_keep : (get_or ws m 0 ≡ w → r ≤ get_or block m 0 ⊕ base) → SmallestOf block base ws w (m + 1) r
  smallest_keep f = record {
    each = each_to r (le_refl r) f;
    one = ⊎_elim inl (λ (i, h, q, e). inr (i, omega arith, q, e)) S.one;
  }

  pub smallest_take : get_or ws m 0 ≡ w → get_or block m 0 ⊕ base < r → SmallestOf block base ws w (m + 1) (get_or block m 0 ⊕ base)
  smallest_take q h = record {
    each = each_to (get_or block m 0 ⊕ base) (omega arith) (λ _. le_refl (get_or block m 0 ⊕ base));
    one = inr (m, omega arith, q, refl);
  }

  -- of the word met and the smallest before it the smaller is held
  pub smallest_met : {y : ℕ} → get_or ws m 0 ≡ w → y ≡ min r (get_or block m 0 ⊕ base) → SmallestOf block base ws w (m + 1) y
  smallest_met {y} q e = go (dec_le r (get_or block m 0 ⊕ base))
    where
      go : Dec (r ≤ get_or block m 0 ⊕ base) → SmallestOf block base ws w (m + 1) y
      go (yes h) = let is : y ≡ r = omega arith in rw is (smallest_keep (λ _. h))
      go (no h) = let is : y ≡ get_or block m 0 ⊕ base = omega arith in rw is (smallest_take q (omega arith))

-- ---- a block has been tallied

-- a sum of two machine words weighs at most 32
pub weights_small : (block : List ℕ) (base : ℕ) → ((i : ℕ) → i < length block → get_or block i 0 < 2 ^ 32) → base < 2 ^ 32
    → (i : ℕ) → i < length (map (λ b. distance b base) block) → get_or (map (λ b. distance b base) block) i 0 < 33
weights_small block base f h i k =
    let l : i < length block = rw (length-map block (λ b. distance b base)) at k in
    rw (get_d_map (λ b. distance b base) block i l)
    (omega (arith, ones-le 32 (get_or block i 0 ⊕ base) (xor_lt 32 (get_or block i 0) base (f i l) h)))

pub weights_long : (block : List ℕ) (base : ℕ) {ws : List ℕ} → ws ≡ map (λ b. distance b base) block → length ws ≡ length block
weights_long block base e = ap length e ∙ length-map block (λ b. distance b base)

module _ (counts : List ℕ) where
  none_below : (j : ℕ) → j < first (counted counts) 32 → get_or counts (suc j) 0 ≡ 0
  none_below j h = eqb-true _ 0 (not-false _ (first-before (counted counts) 32 j h))

  pub some_at : least_of counts < 33 → get_or counts (least_of counts) 0 ≢ 0
  some_at h = eqb-false _ 0 (not-true _ (first_hit (counted counts) 32 (omega arith)))

-- the walk w goes on over the block: ws are its weights, and after the counts then
pub record Weighed (block : List ℕ) (base : ℕ) (w : Walk) (ws after : List ℕ) : Type 0 where
  pub weights : ws ≡ map (λ b. distance b base) block
  pub tallied : Tallied ws w.counts after

-- what the walk holds
pub held_is : (rows : List ℕ) (m : ℕ) (w : Walk) → Walked rows m w → least_of w.counts < 33
    → (x : ℕ) × (w.lightest ≡ Some (record { weight = least_of w.counts; word = x })) × SmallestMet rows m (least_of w.counts) x
held_is rows m w M h = go w.lightest refl M.least M.lightest
  where
    go : (o : Option Lightest) → w.lightest ≡ o → option_map (λ l. l.weight) o ≡ some_least w.counts → IfSome o (λ l. SmallestMet rows m l.weight l.word)
        → (x : ℕ) × (w.lightest ≡ Some (record { weight = least_of w.counts; word = x })) × SmallestMet rows m (least_of w.counts) x
    go None e p S = absurd (omega (arith, no_least w.counts p))
    go (Some l) e p S =
        let is = (some_least_is w.counts l.weight p).0 in
        (l.word, e ∙ ap (λ (y : ℕ). Some (record { weight = y; word = l.word })) is, rw is at S)

none_held : (rows : List ℕ) (m : ℕ) (w : Walk) → Walked rows m w → 33 ≤ least_of w.counts → w.lightest ≡ None
none_held rows m w M h = go w.lightest M.least
  where
    go : (o : Option Lightest) → option_map (λ l. l.weight) o ≡ some_least w.counts → o ≡ None
    go None p = refl
    go (Some l) p = let q = some_least_is w.counts l.weight p in absurd (omega arith)

module _ {block : List ℕ} {base : ℕ} {w : Walk} {ws after : List ℕ} (W : Weighed block base w ws after) where
  abbrev was : ℕ
  was = least_of w.counts

  abbrev l : ℕ
  l = least_of after

  entry : (i : ℕ) → i < length block → get_or ws i 0 ≡ distance (get_or block i 0) base
  entry i h = ap (λ (l : List ℕ). get_or l i 0) W.weights ∙ get_d_map (λ b. distance b base) block i h

  long : length ws ≡ length block
  long = weights_long block base W.weights

  in_size : (i : ℕ) → i < length ws → i < length block
  in_size i h = rw long at h

  grown : (j : ℕ) → get_or after j 0 ≡ get_or w.counts j 0 + count (λ i. eqb (distance (get_or block i 0) base) j) (length block)
  grown j =
      W.tallied.grown j ∙ ap (λ (n : ℕ). get_or w.counts j 0 + count (λ i. eqb (get_or ws i 0) j) n) long
      ∙ ap (λ (n : ℕ). get_or w.counts j 0 + n)
      (count_same (λ i. eqb (get_or ws i 0) j) (λ i. eqb (distance (get_or block i 0) base) j) (length block) (λ i h. ap (λ (x : ℕ). eqb x j) (entry i h)))

  -- a weight that was counted still is
  falls : l ≤ was
  falls = go (dec_le l was)
    where
      go : Dec (l ≤ was) → l ≤ was
      go (yes k) = k
      go (no k) =
          let b = first-le (counted after) 32 in
          let none : get_or after was 0 ≡ 0 = none_below after _ (omega arith) in
          absurd (omega (arith, W.tallied.grown was, none, some_at w.counts (omega arith)))

  -- none of the least weight was counted before, where that has fallen
  not-before : l < was → get_or w.counts l 0 ≡ 0
  not-before h = none_below w.counts _ (omega arith)

  module _ (rows : List ℕ) (m : ℕ) (words : (i : ℕ) → i < length block → get_or block i 0 ⊕ base ≡ encode rows (m + i))
      (M : Walked rows m w) where
    counts : (j : ℕ) → j < 33 → get_or after j 0 ≡ count (λ u. eqb (weight (encode rows u)) j) (m + length block)
    counts j h =
        grown j
        ∙ ap₂ ◌+◌ (M.counts j h)
        (count_same (λ i. eqb (distance (get_or block i 0) base) j) (λ i. eqb (weight (encode rows (m + i))) j) (length block)
        (λ i k. ap (λ (x : ℕ). eqb (weight x) j) (words i k)))
        ∙ sym (count_add (λ u. eqb (weight (encode rows u)) j) m (length block))

    -- where a message before the block has a codeword of the least weight, that was the least weight before
    met-before : l < 33 → (u : ℕ) → u < m → weight (encode rows u) ≡ l → l ≡ was
    met-before h u k e = go (dec_le was l)
      where
        go : Dec (was ≤ l) → l ≡ was
        go (yes q) = omega (arith, falls)
        go (no q) =
            absurd (omega (
              arith,
              not-before (omega arith),
              M.counts l h,
              count_some (λ u. eqb (weight (encode rows u)) l) m u k (eq-eqb _ _ e),
            ))

    -- x is a codeword of weight l, of a message before the block or in it
    abbrev Met : ℕ → Type 0
    Met x = ((u : ℕ) × (u < m + length block) × (x ≡ encode rows u)) × (weight x ≡ l)

    -- no word of the block is smaller than x, nor the one held where its weight is still the least
    module _ (few : l < 33) (x : ℕ) (old : (y : ℕ) → l ≡ was → SmallestMet rows m l y → w.lightest ≡ Some (record { weight = l; word = y }) → x ≤ y)
        (new : (i : ℕ) → i < length block → get_or ws i 0 ≡ l → x ≤ get_or block i 0 ⊕ base) where
      smallest : (u : ℕ) → u < m + length block → weight (encode rows u) ≡ l → x ≤ encode rows u
      smallest u k e = go (dec_le (suc u) m)
        where
          go : Dec (u < m) → x ≤ encode rows u
          go (yes q) =
              let s = met-before few u q e in
              let (y, is, S) = held_is rows m w M (omega arith) in
              omega (arith, old y s (rw (← s) at S) (rw (← s) at is), S.smallest u q (e ∙ s))
          go (no q) =
              let i = u - m in
              let is : m + i ≡ u = omega arith in
              let at : get_or block i 0 ⊕ base ≡ encode rows u = rw is at (words i (omega arith)) in
              rw at at (new i (omega arith) (entry i (omega arith) ∙ ap weight at ∙ e))

      walks : Met x → Walked rows (m + length block) (record { counts = after; lightest = Some (record { weight = l; word = x }) })
      walks f = record {
        size = W.tallied.size;
        counts = counts;
        least = least_some after l refl few;
        lightest = record { met = f.0; weighs = f.1; smallest = smallest };
      }

    -- the word held still is
    held_still : l < 33 → {x t : ℕ} → t ≡ l → w.lightest ≡ Some (record { weight = t; word = x }) → SmallestMet rows m t x
        → ((i : ℕ) → i < length block → get_or ws i 0 ≡ l → x ≤ get_or block i 0 ⊕ base)
        → Walked rows (m + length block) (record { counts = after; lightest = w.lightest })
    held_still h {x} e is S new =
        let (u, k, q) = S.met in
        rw (is, e) (walks h x (λ y s T at. let same : x ≡ y = ap (λ (o : Option Lightest). unwrap_or (option_map (λ h. h.word) o) 0) (sym is ∙ at) in omega arith) new ((u, omega arith, q), S.weighs ∙ e))

    in_block : (x i : ℕ) → i < length block → get_or ws i 0 ≡ l → x ≡ get_or block i 0 ⊕ base → Met x
    in_block x i k q e = ((m + i, omega arith, e ∙ words i k), ap weight e ∙ sym (entry i k) ∙ q)

  -- no word of the block has the least weight
  pub walk_kept : (l < 33 → get_or after l 0 ≤ get_or w.counts l 0) → BlockWalked block base w (record { counts = after; lightest = w.lightest })
  walk_kept stays rows m words M = go (dec_le (suc l) 33)
    where
      none : l < 33 → (i : ℕ) → i < length block → get_or ws i 0 ≡ l → ⊥
      none h i k q =
          omega (arith, stays h, W.tallied.grown l, count_some (λ i. eqb (get_or ws i 0) l) (length ws) i (rw long k) (eq-eqb _ _ q))

      same : l < 33 → Dec (was ≤ l) → l ≡ was
      same h (yes k) = omega (arith, falls)
      same h (no k) = absurd (omega (arith, some_at after h, stays h, not-before (omega arith)))

      go : Dec (l < 33) → Walked rows (m + length block) (record { counts = after; lightest = w.lightest })
      go (yes h) =
          let s = same h (dec_le was l) in
          let (x, is, S) = held_is rows m w M (omega (arith, s)) in
          held_still rows m words M h (sym s) is S (λ i k q. absurd (none h i k q))
      go (no h) =
          rw (none_held rows m w M (omega (arith, falls)))
          (record { size = W.tallied.size; counts = counts rows m words M; least = least_none after (omega arith); lightest = tt })

  -- there is one: y is the smallest of these, and r that or the word held
  module _ {y : ℕ} {r : Lightest} (few : l < 33) (small-block : (i : ℕ) → i < length block → get_or block i 0 < 2 ^ 32) (small-base : base < 2 ^ 32)
      (grew : get_or w.counts l 0 < get_or after l 0) (S : SmallestOf block base ws l (length block) y)
      (K : Kept w.lightest (record { weight = l; word = y }) r) where
    -- no machine word is larger than 2^32 - 1, so that y is a word of the block
    found : (i : ℕ) × (i < length block) × (get_or ws i 0 ≡ l) × (y ≡ get_or block i 0 ⊕ base)
    found = go S.one
      where
        go : (y ≡ 2 ^ 32 - 1) ⊎ ((i : ℕ) × (i < length block) × (get_or ws i 0 ≡ l) × (y ≡ get_or block i 0 ⊕ base))
            → (i : ℕ) × (i < length block) × (get_or ws i 0 ≡ l) × (y ≡ get_or block i 0 ⊕ base)
        go (inr f) = f
        go (inl e) =
            let (i, f, t) = count-found (λ i. eqb (get_or ws i 0) l) (length ws) (omega (arith, W.tallied.grown l)) in
            let q : get_or ws i 0 ≡ l = eqb-true _ _ t in
            let g = in_size i f in
            (i, g, q, omega (arith, S.each i g q, e, xor_lt 32 (get_or block i 0) base (small-block i g) small-base))

    abbrev Held : ℕ → Type 0
    Held x = w.lightest ≡ Some (record { weight = l; word = x })

    cases : (o : Option Lightest) → w.lightest ≡ o
        → MatchOption o (r.word ≡ y) (λ h. (h.weight ≡ l → r.word ≡ min h.word y) × (h.weight ≢ l → r.word ≡ y))
        → (r.word ≤ y) × ((x : ℕ) → Held x → r.word ≤ x) × ((r.word ≡ y) ⊎ ((x : ℕ) × Held x × (r.word ≡ x)))
    cases None e k = (omega arith, λ x q. absurd cc, inl k)
    cases (Some h) e k = same (ℕ_discrete h.weight l)
      where
        is : (x : ℕ) → Held x → h ≡ record { weight = l; word = x }
        is x q = ap (λ (o : Option Lightest). unwrap_or o h) (sym e ∙ q)

        least : Dec (h.word ≤ y) → h.weight ≡ l → r.word ≡ min h.word y → (r.word ≡ y) ⊎ ((x : ℕ) × Held x × (r.word ≡ x))
        least (yes k) s m = inr (h.word, e ∙ ap (λ (t : ℕ). Some (record { weight = t; word = h.word })) s, omega arith)
        least (no k) s m = inl (omega arith)

        same : Dec (h.weight ≡ l) → (r.word ≤ y) × ((x : ℕ) → Held x → r.word ≤ x) × ((r.word ≡ y) ⊎ ((x : ℕ) × Held x × (r.word ≡ x)))
        same (yes s) =
            let m = k.0 s in
            (omega arith, λ x q. let t : h.word ≡ x = ap (λ (z : Lightest). z.word) (is x q) in omega arith, least (dec_le h.word y) s m)
        same (no n) = (omega (arith, k.1 n), λ x q. absurd (n (ap (λ (z : Lightest). z.weight) (is x q))), inl (k.1 n))

    pub walk_smallest : BlockWalked block base w (record { counts = after; lightest = Some r })
    walk_smallest rows m words M =
        let (below, older, one) = cases w.lightest refl K.lighter in
        rw K.weighs
        (walks rows m words M few r.word (λ x s T at. older x at) (λ i k q. le_trans below (S.each i k q)) (met one))
      where
        met : (r.word ≡ y) ⊎ ((x : ℕ) × Held x × (r.word ≡ x)) → Met rows m words M r.word
        met (inl e) = let (i, k, q, f) = found in in_block rows m words M r.word i k q (e ∙ f)
        met (inr (x, at, e)) =
            let T : SmallestMet rows m l x = rw at at M.lightest in
            let (u, k, q) = T.met in
            ((u, omega arith, e ∙ q), ap weight e ∙ T.weighs)
