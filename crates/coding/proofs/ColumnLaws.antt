-- Laws of a code given by columns: different columns of odd weight, none a single bit, make the minimum distance at least 4, a column of
-- weight 3 makes it 4, and a codeword is within 1 exactly where the syndrome is 0 or a column. Assumes nothing.
use mathlib.Core.Path.{◌≡◌, refl, sym, ap, ap₂, ◌∙◌}
use mathlib.Core.Logic.{◌≢◌, ◌⊎◌, inl, inr}
use mathlib.Core.List.{List, [], ◌∷◌}
use Prim.Native.Nat.{ℕ, zero, suc, ◌+◌, ◌/◌, ◌%◌, ◌^◌, ◌≤◌, ◌<◌, suc-le-suc}
use native.Mathlib.Nat.{pos_of_ne-zero}
use native.Mathlib.Decide.{ℕ_discrete}
use native.Mathlib.Omega.{arith}
use lib.ListN.{length, get_or}
use lib.Pow.{pow_pos, pow-lt}
use lib.Bits.{xor_lt, xor_self, xor_zero_r, xor_comm}
use lib.Count.{ones_step, count_trailing_zeros}
use Rattle.coding.specs.Word.{◌⊕◌, bit, weight, distance}
use Rattle.coding.specs.Matrix.{sel, encode, Inside}
use Rattle.coding.specs.Columns.{SplitWord, split_distance, units, split_syndrome, SplitPlaces, SplitCodeword, OddColumns, SplitMinimumDistance}
use Rattle.coding.proofs.WordLaws.{xor-eq, xor-four, xor_assoc, xor_cancel_r, half_lt, bit_xor, bit-pow}
use Rattle.coding.proofs.WeightLaws.{weight-zero, weight_none, weight-one, weight-xor-odd, weight-pow, weight_less, distance_sym, distance_self, distance_tri}
use Rattle.coding.proofs.MatrixLaws.{encode-xor, encode-zero, encode-lt, row_message}
use Rattle.coding.proofs.ReduceLaws.{IsLead, is_lead}
use Rattle.coding.proofs.LinearLaws.{identity_rows}

-- ---- split words

pub split_same : {a b : SplitWord} → a.check ≡ b.check → a.info ≡ b.info → a ≡ b
split_same c d = λ i. record { check = c i; info = d i }

pub split_discrete : Discrete SplitWord
split_discrete a b = go (ℕ_discrete a.check b.check) (ℕ_discrete a.info b.info)
  where
    go : Dec (a.check ≡ b.check) → Dec (a.info ≡ b.info) → Dec (a ≡ b)
    go (yes c) (yes d) = yes (split_same c d)
    go (yes c) (no k) = no (λ e. k (ap (λ (w : SplitWord). w.info) e))
    go (no k) d = no (λ e. k (ap (λ (w : SplitWord). w.check) e))

pub split-distance_sym : (a b : SplitWord) → split_distance a b ≡ split_distance b a
split-distance_sym a b = omega (arith, distance_sym a.check b.check, distance_sym a.info b.info)

pub split-distance_tri : (a b c : SplitWord) → split_distance a c ≤ split_distance a b + split_distance b c
split-distance_tri a b c = omega (arith, distance_tri a.check b.check c.check, distance_tri a.info b.info c.info)

pub split-distance_self : (a : SplitWord) → split_distance a a ≡ 0
split-distance_self a = omega (arith, distance_self a.check, distance_self a.info)

-- the syndrome of a sum is the sum of the syndromes
pub split-syndrome-xor : (c : ℕ) (cols : List ℕ) (a b : SplitWord)
    → split_syndrome c cols (record { check = a.check ⊕ b.check; info = a.info ⊕ b.info }) ≡ split_syndrome c cols a ⊕ split_syndrome c cols b
split-syndrome-xor c cols a b =
    ap₂ ◌⊕◌ (encode-xor (units c) a.check b.check) (encode-xor cols a.info b.info)
    ∙ xor-four (encode (units c) a.check) (encode (units c) b.check) (encode cols a.info) (encode cols b.info)

-- a codeword's check part is the sum of the columns of its information part, and no other word has it
pub check_is : (c : ℕ) (cols : List ℕ) (w : SplitWord) → SplitCodeword c cols w → w.check ≡ encode cols w.info
check_is c cols w C = sym (identity_rows c w.check C.places.check) ∙ xor-eq _ _ C.zero_syndrome

pub encoded-codeword : (c : ℕ) (cols : List ℕ) → Inside c cols → (x : ℕ) → x < 2 ^ length cols
    → SplitCodeword c cols (record { check = encode cols x; info = x })
encoded-codeword c cols f x h =
    let l : encode cols x < 2 ^ c = encode-lt c cols f x in
    record {
      places = record { check = l; info = h };
      zero_syndrome = ap (λ (y : ℕ). y ⊕ encode cols x) (identity_rows c (encode cols x) l)
          ∙ xor_self (encode cols x);
    }

-- ---- one place taken out of a word

record Place (k x : ℕ) : Type 0 where
  q : ℕ
  inside : q < k
  one : bit x q ≡ 1
  below : x ⊕ 2 ^ q < 2 ^ k
  lighter : suc (weight (x ⊕ 2 ^ q)) ≡ weight x

place_of : (k x : ℕ) → x < 2 ^ k → x ≢ 0 → Place k x
place_of k x h ne =
    let L : IsLead k x (count_trailing_zeros k x) = is_lead k x h ne in
    record {
      q = count_trailing_zeros k x;
      inside = L.inside;
      one = L.leads.one;
      below = xor_lt k x (2 ^ count_trailing_zeros k x) h (pow-lt L.inside);
      lighter = weight_less x (count_trailing_zeros k x) L.leads.one;
    }

encode-without : (cols : List ℕ) (x q : ℕ) → q < length cols → encode cols x ≡ encode cols (x ⊕ 2 ^ q) ⊕ get_or cols q 0
encode-without cols x q h =
    ap (encode cols) (sym (xor_cancel_r (2 ^ q) x)) ∙ encode-xor cols (x ⊕ 2 ^ q) (2 ^ q)
    ∙ ap (λ (y : ℕ). encode cols (x ⊕ 2 ^ q) ⊕ y) (row_message cols q h)

-- ---- the minimum distance

digits-odd : (s t c o : ℕ) → s % 2 ≡ c → t % 2 ≡ o % 2 → (s + t) % 2 ≡ (c + o) % 2
digits-odd s t c o e f = omega arith

-- a sum of columns of odd weight is odd exactly when their number is
odd-sum : (cols : List ℕ) → ((i : ℕ) → i < length cols → weight (get_or cols i 0) % 2 ≡ 1) → (x : ℕ) → x < 2 ^ length cols
    → weight (encode cols x) % 2 ≡ weight x % 2
odd-sum [] f x h = let e : x ≡ 0 = omega arith in rw e refl
odd-sum (r ∷ rs) f x h =
    weight-xor-odd (sel (x % 2) r) (encode rs (x / 2))
    ∙ digits-odd _ _ (x % 2) _ (go (x % 2) (omega arith)) (odd-sum rs (λ i l. f (suc i) (suc-le-suc l)) (x / 2) (half_lt (length rs) h))
    ∙ ap (λ (y : ℕ). y % 2) (sym (ones_step x))
  where
    go : (c : ℕ) → c < 2 → weight (sel c r) % 2 ≡ c
    go zero l = ap (λ (y : ℕ). y % 2) weight-zero
    go (suc zero) l = f 0 (omega arith)
    go (suc (suc c)) l = absurd (omega arith)

module _ (c : ℕ) (cols : List ℕ) (K : OddColumns c cols) where
  -- an information part that is not 0 and the sum of its columns have 4 ones or more
  heavy : (x : ℕ) → x < 2 ^ length cols → x ≢ 0 → 4 ≤ weight (encode cols x) + weight x
  heavy x h ne = one_out (place_of (length cols) x h ne)
    where
      even : weight (encode cols x) % 2 ≡ weight x % 2
      even = odd-sum cols K.odd x h

      two_out : (s : Place (length cols) x) → Place (length cols) (x ⊕ 2 ^ s.q) → 4 ≤ weight (encode cols x) + weight x
      two_out s t = last (ℕ_discrete ((x ⊕ 2 ^ s.q) ⊕ 2 ^ t.q) 0)
        where
          last : Dec ((x ⊕ 2 ^ s.q) ⊕ 2 ^ t.q ≡ 0) → 4 ≤ weight (encode cols x) + weight x
          last (no z) = omega (arith, even, s.lighter, t.lighter, pos_of_ne-zero (λ e. z (weight_none ((x ⊕ 2 ^ s.q) ⊕ 2 ^ t.q) e)))
          last (yes z) =
              let e : encode cols x ≡ get_or cols t.q 0 ⊕ get_or cols s.q 0 =
              encode-without cols x s.q s.inside
              ∙ ap (λ (y : ℕ). y ⊕ get_or cols s.q 0) (encode-without cols (x ⊕ 2 ^ s.q) t.q t.inside
              ∙ ap (λ (y : ℕ). encode cols y ⊕ get_or cols t.q 0) z ∙ ap (λ (y : ℕ). y ⊕ get_or cols t.q 0) (encode-zero cols)) in
              let two : weight x ≡ 2 = omega (arith, s.lighter, t.lighter, ap weight z ∙ weight-zero) in
              let some : weight (encode cols x) ≢ 0 =
              λ w. clash (K.different t.q s.q t.inside s.inside (xor-eq _ _ (sym e ∙ weight_none (encode cols x) w))) in
              omega (arith, even, pos_of_ne-zero some)
            where
              clash : t.q ≡ s.q → ⊥
              clash e =
                  let b : bit (x ⊕ 2 ^ s.q) s.q ≡ 1 = ap (bit (x ⊕ 2 ^ s.q)) (sym e) ∙ t.one in
                  let z' : bit (x ⊕ 2 ^ s.q) s.q ≡ 0 = bit_xor x (2 ^ s.q) s.q ∙ ap₂ (λ (u v : ℕ). (u + v) % 2) s.one (bit-pow s.q) in
                  omega (arith, b, z')

      one_out : Place (length cols) x → 4 ≤ weight (encode cols x) + weight x
      one_out s = go (ℕ_discrete (x ⊕ 2 ^ s.q) 0)
        where
          go : Dec (x ⊕ 2 ^ s.q ≡ 0) → 4 ≤ weight (encode cols x) + weight x
          go (no k) = two_out s (place_of (length cols) (x ⊕ 2 ^ s.q) s.below k)
          go (yes z) =
              let e : encode cols x ≡ get_or cols s.q 0 =
              encode-without cols x s.q s.inside ∙ ap (λ (y : ℕ). encode cols y ⊕ get_or cols s.q 0) z
              ∙ ap (λ (y : ℕ). y ⊕ get_or cols s.q 0) (encode-zero cols) in
              omega (arith, ap weight e, K.odd s.q s.inside, K.no_unit s.q s.inside, s.lighter, ap weight z ∙ weight-zero)

  -- different codewords are at least 4 apart
  pub four-apart : (a b : SplitWord) → SplitCodeword c cols a → SplitCodeword c cols b → a ≢ b → 4 ≤ split_distance a b
  four-apart a b A B ne =
      let x = a.info in
      let y = b.info in
      let e : a.check ⊕ b.check ≡ encode cols (x ⊕ y) = ap₂ ◌⊕◌ (check_is c cols a A) (check_is c cols b B) ∙ sym (encode-xor cols x y) in
      omega (arith, ap weight e, heavy (x ⊕ y) (xor_lt (length cols) x y A.places.info B.places.info) (λ z. ne (same (xor-eq x y z))))
    where
      same : a.info ≡ b.info → a ≡ b
      same d = split_same (check_is c cols a A ∙ ap (encode cols) d ∙ sym (check_is c cols b B)) d

  -- a column of weight 3 makes the minimum distance 4: its place alone, with its column as check part, is a codeword of weight 4
  pub four_exactly : (i : ℕ) → i < length cols → weight (get_or cols i 0) ≡ 3 → SplitMinimumDistance c cols 4
  four_exactly i h e = record {
    attained = (
      record { check = encode cols (2 ^ i); info = 2 ^ i },
      record { check = encode cols 0; info = 0 },
      encoded-codeword c cols K.inside (2 ^ i) (pow-lt h),
      encoded-codeword c cols K.inside 0 (pow_pos (length cols)),
      (λ z. absurd (omega (arith, ap (λ (w : SplitWord). w.info) z, pow_pos i))),
      ap₂ (λ (u v : ℕ). weight u + weight v)
          (ap₂ ◌⊕◌ (row_message cols i h) (encode-zero cols) ∙ xor_zero_r (get_or cols i 0)) (xor_zero_r (2 ^ i))
          ∙ ap₂ ◌+◌ e (weight-pow i),
    );
    apart = four-apart;
  }

-- ---- decoding within 1

-- s is the column of a place, of either part
abbrev pub IsColumn : ℕ → List ℕ → ℕ → Type 0
IsColumn c cols s = ((j : ℕ) × (j < c) × (s ≡ 2 ^ j)) ⊎ ((i : ℕ) × (i < length cols) × (s ≡ get_or cols i 0))

-- a place of either part changed
abbrev pub check_changed : SplitWord → ℕ → SplitWord
check_changed w j = record { check = w.check ⊕ 2 ^ j; info = w.info }

abbrev pub info_changed : SplitWord → ℕ → SplitWord
info_changed w i = record { check = w.check; info = w.info ⊕ 2 ^ i }

place-distance : (x q : ℕ) → distance x (x ⊕ 2 ^ q) ≡ 1
place-distance x q = ap weight (sym (xor_assoc x x (2 ^ q)) ∙ ap (λ (y : ℕ). y ⊕ 2 ^ q) (xor_self x)) ∙ weight-pow q

pub check_changed_distance : (w : SplitWord) (j : ℕ) → split_distance w (check_changed w j) ≡ 1
check_changed_distance w j = ap₂ ◌+◌ (place-distance w.check j) (distance_self w.info)

pub info_changed_distance : (w : SplitWord) (i : ℕ) → split_distance w (info_changed w i) ≡ 1
info_changed_distance w i = ap₂ ◌+◌ (distance_self w.check) (place-distance w.info i)

module _ (c : ℕ) (cols : List ℕ) (w : SplitWord) (P : SplitPlaces c cols w) where
  -- a syndrome equal to the column of a place: with that place changed it is 0
  pub mend_check : (j : ℕ) → j < c → split_syndrome c cols w ≡ 2 ^ j → SplitCodeword c cols (check_changed w j)
  mend_check j h e =
      let l : w.check ⊕ 2 ^ j < 2 ^ c = xor_lt c w.check (2 ^ j) P.check (pow-lt h) in
      record {
        places = record { check = l; info = P.info };
        zero_syndrome =
            ap (λ (y : ℕ). y ⊕ encode cols w.info) (identity_rows c _ l ∙ xor_comm w.check (2 ^ j))
            ∙ xor_assoc (2 ^ j) w.check (encode cols w.info)
            ∙ ap (λ (y : ℕ). 2 ^ j ⊕ y) (ap (λ (y : ℕ). y ⊕ encode cols w.info) (sym (identity_rows c w.check P.check)) ∙ e) ∙ xor_self (2 ^ j);
      }

  pub mend_info : (i : ℕ) → i < length cols → split_syndrome c cols w ≡ get_or cols i 0 → SplitCodeword c cols (info_changed w i)
  mend_info i h e = record {
    places = record { check = P.check; info = xor_lt (length cols) w.info (2 ^ i) P.info (pow-lt h) };
    zero_syndrome =
        ap (λ (y : ℕ). encode (units c) w.check ⊕ y) (encode-xor cols w.info (2 ^ i))
        ∙ sym (xor_assoc (encode (units c) w.check) (encode cols w.info) (encode cols (2 ^ i)))
        ∙ ap₂ ◌⊕◌ e (row_message cols i h) ∙ xor_self (get_or cols i 0);
  }

  -- where a codeword is within 1, the syndrome is 0 or the column of a place
  pub near_syndrome : (b : SplitWord) → SplitCodeword c cols b → split_distance w b ≤ 1
      → (split_syndrome c cols w ≡ 0) ⊎ IsColumn c cols (split_syndrome c cols w)
  near_syndrome b B l = one_at_lem (weight x) (weight y) refl refl l
    where
      x : ℕ
      x = w.check ⊕ b.check

      y : ℕ
      y = w.info ⊕ b.info

      -- the syndrome is that of the error
      s : split_syndrome c cols w ≡ x ⊕ encode cols y
      s =
          sym (xor_zero_r (split_syndrome c cols w)) ∙ ap (λ (v : ℕ). split_syndrome c cols w ⊕ v) (sym B.zero_syndrome)
          ∙ sym (split-syndrome-xor c cols w b)
          ∙ ap (λ (v : ℕ). v ⊕ encode cols y) (identity_rows c x (xor_lt c w.check b.check P.check B.places.check))

      of_error : (u v z : ℕ) → x ≡ u → y ≡ v → u ⊕ encode cols v ≡ z → split_syndrome c cols w ≡ z
      of_error u v z e f g = s ∙ ap₂ (λ (a b : ℕ). a ⊕ encode cols b) e f ∙ g

      one_at_lem : (f g : ℕ) → weight x ≡ f → weight y ≡ g → f + g ≤ 1
          → (split_syndrome c cols w ≡ 0) ⊎ IsColumn c cols (split_syndrome c cols w)
      one_at_lem zero zero e f h = inl (of_error 0 0 0 (weight_none x e) (weight_none y f) (encode-zero cols))
      one_at_lem zero (suc zero) e f h =
          let (q, k, p) = weight-one (length cols) y (xor_lt (length cols) w.info b.info P.info B.places.info) f in
          inr (inr (q, k, of_error 0 (2 ^ q) (get_or cols q 0) (weight_none x e) p (row_message cols q k)))
      one_at_lem zero (suc (suc g)) e f h = absurd (omega arith)
      one_at_lem (suc zero) zero e f h =
          let (q, k, p) = weight-one c x (xor_lt c w.check b.check P.check B.places.check) e in
          inr (inl (q, k, of_error (2 ^ q) 0 (2 ^ q) p (weight_none y f) (ap (λ (v : ℕ). 2 ^ q ⊕ v) (encode-zero cols) ∙ xor_zero_r (2 ^ q))))
      one_at_lem (suc zero) (suc g) e f h = absurd (omega arith)
      one_at_lem (suc (suc f)) g e k h = absurd (omega arith)
