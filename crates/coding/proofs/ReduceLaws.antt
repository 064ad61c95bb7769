-- Laws of the reduction: adding a row keeps the shape by place and the span, so the reduced rows have the span of the matrix, and a
-- word is a codeword exactly when they keep it. Assumes nothing.
use mathlib.Core.Path.{◌≡◌, refl, sym, ap, ap₂, ◌∙◌, subst}
use mathlib.Core.Logic.{◌≢◌, ◌↔◌}
use mathlib.Core.List.{List, [], ◌∷◌, map}
use Prim.Native.Nat.{ℕ, zero, suc, ◌+◌, ◌/◌, ◌%◌, ◌^◌, ◌≤◌, ◌<◌, min, suc-le-suc}
use native.Mathlib.Nat.{suc-ne-zero, zero-lt-suc, le_of_suc-le-suc}
use native.Mathlib.Decide.{ℕ_discrete, dec_le}
use native.Mathlib.Omega.{arith}
use lib.ListN.{length, get_or, length-set, length-map, length-replicate, get_or-replicate, get_or-map, get_or-eq_default}
use lib.Seq.{get_or-set_same, get_or-set_other}
use lib.Pow.{pow_pos}
use lib.Bits.{xor_lt}
use lib.Count.{count_trailing_zeros, under}
use Rattle.coding.specs.Lists.{zeros}
use Rattle.coding.specs.Word.{◌⊕◌, bit}
use Rattle.coding.specs.Matrix.{sel, encode, Codeword, Inside}
use Rattle.coding.specs.Reduced.{Leads}
use Rattle.coding.specs.Reduce.{rest, wipe, put, add_to, reduce_from, reduce}
use Rattle.coding.proofs.WordLaws.{xor-eq, half_lt, xor_cancel_r, bit-lt, bit-half, bit_zeroth, bit_of_zero, bit_xor}
use Rattle.coding.proofs.MatrixLaws.{sel-lt, encode-xor, encode-zero, encode_kept, encode-lt, codeword-zero, codeword-xor, sel_in, encode_in, row_codeword}
use Rattle.coding.proofs.CheckLaws.{bit-sel}
use Rattle.coding.proofs.PivotLaws.{ByPlace, rest_pivot, row_kept, encode_twice}

-- ---- the leftmost one of a word

-- the leftmost one of w stands at q, one of the n places
pub record IsLead (n w q : ℕ) : Type 0 where
  pub inside : q < n
  pub leads : Leads w q

pub is_lead : (n w : ℕ) → w < 2 ^ n → w ≢ 0 → IsLead n w (count_trailing_zeros n w)
unfolding count_trailing_zeros
is_lead zero w h ne = absurd (ne (omega arith))
is_lead (suc n) w h ne = go (w % 2) refl (λ k. is_lead n (w / 2) (half_lt n h) k)
  where
    go : (c : ℕ) → w % 2 ≡ c → (w / 2 ≢ 0 → IsLead n (w / 2) (count_trailing_zeros n (w / 2))) → IsLead (suc n) w (under c (count_trailing_zeros n (w / 2)))
    go zero e f =
        let g : IsLead n (w / 2) (count_trailing_zeros n (w / 2)) = f (λ z. ne (omega arith)) in
        record {
          inside = suc-le-suc g.inside;
          leads = record {
            one = bit-half w (count_trailing_zeros n (w / 2)) ∙ g.leads.one;
            none_before = before (count_trailing_zeros n (w / 2)) g.leads.none_before;
          };
        }
      where
        before : (t : ℕ) → ((j : ℕ) → j < t → bit (w / 2) j ≡ 0) → (j : ℕ) → j < suc t → bit w j ≡ 0
        before t k zero l = bit_zeroth w ∙ e
        before t k (suc j) l = bit-half w j ∙ k j (omega arith)
    go (suc c) e f = record { inside = zero-lt-suc n; leads = record { one = bit_zeroth w ∙ omega arith; none_before = λ j l. absurd (omega arith) } }

-- ---- one more row

wipe-bit : (q r x j : ℕ) → bit (wipe q r x) j ≡ (bit x j + min (bit x q) (bit r j)) % 2
wipe-bit q r x j = bit_xor x (sel (bit x q) r) j ∙ ap (λ (y : ℕ). (bit x j + y) % 2) (bit-sel (bit x q) r j (bit-lt x q))

pub wipe-zero : (q r : ℕ) → wipe q r 0 ≡ 0
wipe-zero q r = ap (λ (c : ℕ). sel c r) (bit_of_zero q)

pub put-length : (q : ℕ) (B : List ℕ) (x : ℕ) → length (put q B x) ≡ length B
put-length q B x = length-set (map (wipe q x) B) q x ∙ length-map B (wipe q x)

pub put_same : (q : ℕ) (B : List ℕ) (x : ℕ) → q < length B → get_or (put q B x) q 0 ≡ x
put_same q B x h = get_or-set_same (map (wipe q x) B) q x 0 (rw (length-map B (wipe q x)) h)

pub put_other : (q : ℕ) (B : List ℕ) (x p : ℕ) → p ≢ q → get_or (put q B x) p 0 ≡ wipe q x (get_or B p 0)
put_other q B x p ne =
    get_or-set_other (map (wipe q x) B) q p x 0 ne ∙ ap (get_or (map (wipe q x) B) p) (sym (wipe-zero q x)) ∙ get_or-map (wipe q x) B p 0

module _ (n : ℕ) (B : List ℕ) (R : ByPlace n B) (x q : ℕ) (hx : x < 2 ^ n) (L : IsLead n x q)
    (free : (p : ℕ) → p < length B → get_or B p 0 ≢ 0 → bit x p ≡ 0) where
  q_in : q < length B
  q_in = rw R.size L.inside

  -- q is no pivot yet
  pub q_free : get_or B q 0 ≡ 0
  q_free = go (ℕ_discrete (get_or B q 0) 0)
    where
      go : Dec (get_or B q 0 ≡ 0) → get_or B q 0 ≡ 0
      go (yes e) = e
      go (no ne) = absurd (omega (arith, free q q_in ne, L.leads.one))

  pub was : (p : ℕ) → p ≢ q → get_or (put q B x) p 0 ≢ 0 → get_or B p 0 ≢ 0
  was p k ne z = ne (put_other q B x p k ∙ ap (wipe q x) z ∙ wipe-zero q x)

  pub at : (p j : ℕ) → p ≢ q → bit (get_or (put q B x) p 0) j ≡ (bit (get_or B p 0) j + min (bit (get_or B p 0) q) (bit x j)) % 2
  at p j k = ap (λ (y : ℕ). bit y j) (put_other q B x p k) ∙ wipe-bit q x (get_or B p 0) j

  at_q : (j : ℕ) → bit (get_or (put q B x) q 0) j ≡ bit x j
  at_q j = ap (λ (y : ℕ). bit y j) (put_same q B x q_in)

  pub put_reduced : ByPlace n (put q B x)
  put_reduced = record {
    size = put-length q B x ∙ R.size;
    below = λ p h. below p (rw (put-length q B x) at h) (ℕ_discrete p q);
    lead = λ p h ne. lead p (rw (put-length q B x) at h) ne (ℕ_discrete p q);
    leftmost = λ p j h l. leftmost p j (rw (put-length q B x) at h) l (ℕ_discrete p q);
    clear = λ p s h k d ne. clear p s (rw (put-length q B x) at h) (rw (put-length q B x) at k) d ne (ℕ_discrete p q) (ℕ_discrete s q);
  }
    where
      below : (p : ℕ) → p < length B → Dec (p ≡ q) → get_or (put q B x) p 0 < 2 ^ n
      below p h (yes e) = rw (e, put_same q B x q_in) hx
      below p h (no k) = rw (put_other q B x p k) (xor_lt n _ _ (R.below p h) (sel-lt n (bit (get_or B p 0) q) x hx))

      lead : (p : ℕ) → p < length B → get_or (put q B x) p 0 ≢ 0 → Dec (p ≡ q) → bit (get_or (put q B x) p 0) p ≡ 1
      lead p h ne (yes e) = rw e (at_q q ∙ L.leads.one)
      lead p h ne (no k) = omega (arith, at p p k, R.lead p h (was p k ne), free p h (was p k ne))

      leftmost : (p j : ℕ) → p < length B → j < p → Dec (p ≡ q) → bit (get_or (put q B x) p 0) j ≡ 0
      leftmost p j h l (yes e) = rw e (at_q j ∙ L.leads.none_before j (rw e at l))
      leftmost p j h l (no k) = pick (dec_le p q)
        where
          pick : Dec (p ≤ q) → bit (get_or (put q B x) p 0) j ≡ 0
          pick (yes g) = omega (arith, at p j k, R.leftmost p j h l, L.leads.none_before j (omega arith))
          pick (no g) = omega (arith, at p j k, R.leftmost p j h l, R.leftmost p q h (omega arith))

      clear : (p s : ℕ) → p < length B → s < length B → p ≢ s → get_or (put q B x) s 0 ≢ 0 → Dec (p ≡ q) → Dec (s ≡ q) → bit (get_or (put q B x) p 0) s ≡ 0
      clear p s h k d ne (yes e) (yes f) = absurd (d (e ∙ sym f))
      clear p s h k d ne (yes e) (no f) = rw e (at_q s ∙ free s k (was s f ne))
      clear p s h k d ne (no e) (yes f) = rw f (omega (arith, at p q e, L.leads.one, bit-lt (get_or B p 0) q))
      clear p s h k d ne (no e) (no f) = omega (arith, at p s e, R.clear p s h k d (was s f ne), free s k (was s f ne))

  -- the other places are free as they were
  pub put-zero : (p : ℕ) → p ≢ q → (get_or (put q B x) p 0 ≡ 0) ↔ (get_or B p 0 ≡ 0)
  put-zero p k = (λ z. go z (ℕ_discrete (get_or B p 0) 0) (dec_le (suc p) (length B)), λ z. put_other q B x p k ∙ ap (wipe q x) z ∙ wipe-zero q x)
    where
      go : get_or (put q B x) p 0 ≡ 0 → Dec (get_or B p 0 ≡ 0) → Dec (p < length B) → get_or B p 0 ≡ 0
      go z (yes e) l = e
      go z (no ne) (yes l) =
          absurd (omega (arith, at p p k, R.lead p l ne, free p l ne, ap (λ (y : ℕ). bit y p) z ∙ bit_of_zero p))
      go z (no ne) (no l) = get_or-eq_default B 0 (omega arith)

  -- a row of before is kept by the new rows, and so is x
  pub put_row : (p : ℕ) → p < length B → encode (put q B x) (get_or B p 0) ≡ get_or B p 0
  put_row p h = go (ℕ_discrete p q)
    where
      kept : (i : ℕ) → i < length B → encode (put q B x) (get_or (put q B x) i 0) ≡ get_or (put q B x) i 0
      kept i l = row_kept n (put q B x) put_reduced i (rw (put-length q B x) l)

      kept_x : encode (put q B x) x ≡ x
      kept_x = rw (put_same q B x q_in) at (kept q q_in)

      kept_sel : (c : ℕ) → encode (put q B x) (sel c x) ≡ sel c x
      kept_sel zero = encode-zero (put q B x)
      kept_sel (suc c) = kept_x

      go : Dec (p ≡ q) → encode (put q B x) (get_or B p 0) ≡ get_or B p 0
      go (yes e) = rw (e, q_free) (encode-zero (put q B x))
      go (no k) =
          let y = get_or B p 0 in
          let c = bit y q in
          let back : wipe q x y ⊕ sel c x ≡ y = xor_cancel_r (sel c x) y in
          ap (encode (put q B x)) (sym back) ∙ encode-xor (put q B x) (wipe q x y) (sel c x)
          ∙ ap₂ ◌⊕◌ (rw (put_other q B x p k) at (kept p h)) (kept_sel c) ∙ back

  pub put_has : encode (put q B x) x ≡ x
  put_has = rw (put_same q B x q_in) at (row_kept n (put q B x) put_reduced q (rw (put-length q B x) q_in))

  pub put_keeps : (y : ℕ) → encode B y ≡ y → encode (put q B x) y ≡ y
  put_keeps y e =
      ap (encode (put q B x)) (sym e)
      ∙ encode_kept (encode (put q B x)) (encode-zero (put q B x)) (encode-xor (put q B x)) B put_row y ∙ e

-- ---- all of the rows

pub rest_lt : (n : ℕ) (B : List ℕ) → ByPlace n B → (r : ℕ) → r < 2 ^ n → rest B r < 2 ^ n
rest_lt n B R r h = xor_lt n r (encode B r) h (encode-lt n B R.below r)

-- what one more row leaves: reduced rows, which keep what was kept, and the row
pub record Added (n : ℕ) (B : List ℕ) (r : ℕ) (A : List ℕ) : Type 0 where
  pub reduced : ByPlace n A
  pub keeps : (y : ℕ) → encode B y ≡ y → encode A y ≡ y
  pub has : encode A r ≡ r

pub added : (n : ℕ) (B : List ℕ) → ByPlace n B → (r : ℕ) → r < 2 ^ n → Added n B r (add_to n B (rest B r))
added n B R r h = go (rest B r) refl
  where
    go : (x : ℕ) → rest B r ≡ x → Added n B r (add_to n B x)
    go zero e = record { reduced = R; keeps = λ y k. k; has = sym (xor-eq r (encode B r) e) }
    go (suc y) e =
        let hx : suc y < 2 ^ n = rw e at (rest_lt n B R r h) in
        let L : IsLead n (suc y) (count_trailing_zeros n (suc y)) = is_lead n (suc y) hx (suc-ne-zero y) in
        let f : (p : ℕ) → p < length B → get_or B p 0 ≢ 0 → bit (suc y) p ≡ 0 = λ p l ne. rw e at (rest_pivot n B R r p l ne) in
        let A = put (count_trailing_zeros n (suc y)) B (suc y) in
        let keeps : (z : ℕ) → encode B z ≡ z → encode A z ≡ z = put_keeps n B R (suc y) (count_trailing_zeros n (suc y)) hx L f in
        let back : suc y ⊕ encode B r ≡ r = rw e at (xor_cancel_r (encode B r) r) in
        record {
          reduced = put_reduced n B R (suc y) (count_trailing_zeros n (suc y)) hx L f;
          keeps = keeps;
          has =
              ap (encode A) (sym back) ∙ encode-xor A (suc y) (encode B r)
              ∙ ap₂ ◌⊕◌ (put_has n B R (suc y) (count_trailing_zeros n (suc y)) hx L f) (keeps (encode B r) (encode_twice n B R r)) ∙ back;
        }

pub zeros_at : (n p : ℕ) → p < length (zeros n) → get_or (zeros n) p 0 ≡ 0
zeros_at n p h = get_or-replicate n p 0 0 (rw length-replicate at h)

pub start : (n : ℕ) → ByPlace n (zeros n)
start n = record {
  size = length-replicate n 0;
  below = λ p h. rw (zeros_at n p h) (pow_pos n);
  lead = λ p h ne. absurd (ne (zeros_at n p h));
  leftmost = λ p j h l. rw (zeros_at n p h) (bit_of_zero j);
  clear = λ p q h k d ne. rw (zeros_at n p h) (bit_of_zero q);
}

-- the new rows are sums of the old ones: they stay in whatever holds those and is closed under sums
module _ (C : ℕ → Type 0) (C-zero : C 0) (C-xor : (a b : ℕ) → C a → C b → C (a ⊕ b)) where
  put_in : (q : ℕ) (B : List ℕ) (x : ℕ) → ((p : ℕ) → p < length B → C (get_or B p 0)) → C x → (p : ℕ) → p < length (put q B x) → C (get_or (put q B x) p 0)
  put_in q B x f cx p h = go (ℕ_discrete p q)
    where
      h' : p < length B
      h' = rw (put-length q B x) at h

      go : Dec (p ≡ q) → C (get_or (put q B x) p 0)
      go (yes e) = rw (e, put_same q B x (rw e at h')) cx
      go (no k) = rw (put_other q B x p k) (C-xor _ _ (f p h') (sel_in C C-zero C-xor (bit (get_or B p 0) q) cx))

  added_in : (n : ℕ) (B : List ℕ) (x : ℕ) → ((p : ℕ) → p < length B → C (get_or B p 0)) → C x → (p : ℕ) → p < length (add_to n B x) → C (get_or (add_to n B x) p 0)
  added_in n B zero f cx = f
  added_in n B (suc y) f cx = put_in (count_trailing_zeros n (suc y)) B (suc y) f cx

  pub reduce_in : (n : ℕ) (rs B : List ℕ) → ((p : ℕ) → p < length B → C (get_or B p 0)) → ((i : ℕ) → i < length rs → C (get_or rs i 0))
      → (p : ℕ) → p < length (reduce_from n B rs) → C (get_or (reduce_from n B rs) p 0)
  reduce_in n [] B f g = f
  reduce_in n (r ∷ rs) B f g =
      reduce_in n rs (add_to n B (rest B r)) (added_in n B (rest B r) f (C-xor _ _ (g 0 (omega arith)) (encode_in C C-zero C-xor B f r)))
      (λ i h. g (suc i) (suc-le-suc h))

-- reduced rows that keep what was kept, and each of the rows
pub record Spans (n : ℕ) (B rs A : List ℕ) : Type 0 where
  pub reduced : ByPlace n A
  pub keeps : (y : ℕ) → encode B y ≡ y → encode A y ≡ y
  pub has : (i : ℕ) → i < length rs → encode A (get_or rs i 0) ≡ get_or rs i 0

pub spans : (n : ℕ) (rs B : List ℕ) → ByPlace n B → Inside n rs → Spans n B rs (reduce_from n B rs)
spans n [] B R f = record { reduced = R; keeps = λ y e. e; has = λ i h. absurd (omega arith) }
spans n (r ∷ rs) B R f =
    let a : Added n B r (add_to n B (rest B r)) = added n B R r (f 0 (omega arith)) in
    go a (spans n rs (add_to n B (rest B r)) a.reduced (λ i h. f (suc i) (suc-le-suc h)))
  where
    go : Added n B r (add_to n B (rest B r)) → Spans n (add_to n B (rest B r)) rs (reduce_from n (add_to n B (rest B r)) rs)
        → Spans n B (r ∷ rs) (reduce_from n B (r ∷ rs))
    go a t = record { reduced = t.reduced; keeps = λ y e. t.keeps y (a.keeps y e); has = each }
      where
        each : (i : ℕ) → i < length (r ∷ rs) → encode (reduce_from n B (r ∷ rs)) (get_or (r ∷ rs) i 0) ≡ get_or (r ∷ rs) i 0
        each zero h = t.keeps r a.has
        each (suc i) h = t.has i (le_of_suc-le-suc h)

module _ (n : ℕ) (rs : List ℕ) (fits : Inside n rs) where
  pub whole : Spans n (zeros n) rs (reduce n rs)
  whole = spans n rs (zeros n) (start n) fits

  -- a word is a codeword exactly when the reduced rows keep it
  pub codeword_kept : (w : ℕ) → Codeword rs w → encode (reduce n rs) w ≡ w
  codeword_kept w (u, h, e) =
      ap (encode (reduce n rs)) e ∙ encode_kept (encode (reduce n rs)) (encode-zero (reduce n rs)) (encode-xor (reduce n rs)) rs whole.has u ∙ sym e

  pub kept_codeword : (w : ℕ) → encode (reduce n rs) w ≡ w → Codeword rs w
  kept_codeword w e =
      subst (Codeword rs) e
      (encode_in (Codeword rs) (codeword-zero rs) (codeword-xor rs) (reduce n rs)
      (reduce_in (Codeword rs) (codeword-zero rs) (codeword-xor rs) n rs (zeros n)
      (λ p h. rw (zeros_at n p h) (codeword-zero rs)) (row_codeword rs)) w)
