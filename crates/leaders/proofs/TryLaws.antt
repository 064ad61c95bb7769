-- Laws of the build, step by step: what is known of the next word, and how the recursion goes on.
use mathlib.Core.Path.{◌≡◌, refl, sym, ap, ap₂, ◌∙◌}
use mathlib.Core.Logic.{◌≢◌, ◌⊎◌, inl, inr}
use mathlib.Core.List.{List, [], ◌∷◌, map}
use Prim.Native.Nat.{ℕ, zero, suc, ◌+◌, ◌-◌, ◌*◌, ◌%◌, ◌^◌, ◌≤◌, ◌<◌}
use native.Mathlib.Nat.{pow-suc, add-mul, mul_assoc, one-mul, add-zero, zero-add, suc-add, zero-mul, le_of_lt}
use native.Mathlib.Numerals.{add-one}
use native.Mathlib.Decide.{dec_le}
use native.Mathlib.Omega.{arith}
use lib.ListN.{length, get_or, set, length-set, length-map, length-replicate, get_or-replicate}
use lib.Pow.{pow-lt, pow_pos, pow-add, pow_mono}
use lib.Bits.{xor_shifted}
use lib.Count.{ones_cat}
use Rattle.coding.specs.Word.{◌⊕◌, weight}
use Rattle.coding.specs.Matrix.{encode}
use Rattle.coding.specs.Leader.{no_leader}
use Rattle.coding.specs.Order.{words, order, fill, fills, blanks}
use Rattle.coding.specs.Tries.{blank_count, tried}
use Rattle.coding.proofs.MachineLaws.{shl_one}
use Rattle.coding.proofs.WeightLaws.{weight-zero, weight-pow}
use Rattle.coding.proofs.MatrixLaws.{encode-xor, encode-zero, row_message}
use Rattle.coding.proofs.BuildLaws.{light_word, fill_blank, fill_held, fills-length, fills_done, fills-append, words_few, words_step, blank_set, blank_all}
use Rattle.coding.proofs.OrderedLaws.{words_count, order-count, order_fewer}
use Rattle.coding.proofs.TriesLaws.{tried_done, tried_next, tried-append, tried-le}
use Rattle.leaders.specs.declared.build.Filling.{Filling}
use Rattle.leaders.specs.Inner.Built.{Trying, Tried, TryingIn, TriedIn}

-- ---- what is tried, and what holds afterwards

-- the words prefix + w for the words w of m places and weight t
abbrev pub tries : ℕ → ℕ → ℕ → List ℕ
tries prefix m t = map (λ w. prefix + w) (words m t)

-- 2 ^ p, as the code shifts it
abbrev pub one_at : ℕ → ℕ
one_at p = (1 * 2 ^ p) % 2 ^ 32

pub tried_long : {before cols : List ℕ} {m t prefix : ℕ} {after : List ℕ} {blank r : ℕ} → Tried before cols m t prefix after blank r
    → length after ≡ length before
tried_long {before} {cols} {m} {t} {prefix} R = ap length R.filled ∙ fills-length (encode cols) (tries prefix m t) before

-- no more words than there are numbers of m places
pub tried-small : {before cols : List ℕ} {m t prefix : ℕ} {after : List ℕ} {blank r : ℕ} → Tried before cols m t prefix after blank r
    → m ≤ 32 → r ≤ 2 ^ 32
tried-small {before} {cols} {m} {t} {prefix} R h =
    let l : tried (encode cols) before (tries prefix m t) ≤ length (tries prefix m t) = tried-le (encode cols) (tries prefix m t) before in
    omega (arith, R.count, l, length-map (words m t) (λ w. prefix + w), words_count m t, pow_mono {i = m} {j = 32} h)

-- nothing is blank, or there are fewer places than ones
tried_none : {list cols : List ℕ} {m t prefix blank : ℕ} → blank ≡ blank_count list → blank ≡ 0 → Tried list cols m t prefix list blank 0
tried_none {list} {cols} {m} {t} {prefix} e z = record {
  filled = sym (fills_done (encode cols) (tries prefix m t) list (sym e ∙ z));
  left = e;
  count = sym (tried_done (encode cols) (tries prefix m t) list (sym e ∙ z));
}

tried_few : {list cols : List ℕ} {m t prefix blank : ℕ} → blank ≡ blank_count list → m < t → Tried list cols m t prefix list blank 0
tried_few {list} {cols} {m} {t} {prefix} e h = record {
  filled = sym (ap (λ (l : List ℕ). fills (encode cols) list (map (λ w. prefix + w) l)) (words_few m t h));
  left = e;
  count = sym (ap (λ (l : List ℕ). tried (encode cols) list (map (λ w. prefix + w) l)) (words_few m t h));
}

-- the words without the highest place, then those with it
tried-both : {list between after cols : List ℕ} {m t prefix left end r r' : ℕ} → m ≤ 32 → 1 ≤ m → 1 ≤ t
    → Tried list cols (m - 1) t prefix between left r
    → Tried between cols (m - 1) (t - 1) (prefix + one_at (m - 1)) after end r' → Tried list cols m t prefix after end (r + r')
tried-both {list} {between} {after} {cols} {m} {t} {prefix} {left} {end} {r} {r'} places h k R S = record {
  filled = last.filled ∙ ap (λ (l : List ℕ). fills (encode cols) l high) R.filled ∙ sym (fills-append (encode cols) list low high)
      ∙ ap (fills (encode cols) list) (sym (words_step m t prefix h k));
  left = S.left;
  count = ap₂ ◌+◌ R.count (last.count ∙ ap (λ (l : List ℕ). tried (encode cols) l high) R.filled)
      ∙ sym (tried-append (encode cols) list low high) ∙ ap (tried (encode cols) list) (sym (words_step m t prefix h k));
}
  where
    low : List ℕ
    low = tries prefix (m - 1) t

    high : List ℕ
    high = tries (prefix + 2 ^ (m - 1)) (m - 1) (t - 1)

    last : Tried between cols (m - 1) (t - 1) (prefix + 2 ^ (m - 1)) after end r'
    last = rw (shl_one (m - 1) 32 (omega arith)) at S

-- where no entry is blank any more, words with higher places change nothing
tried_wider : {list cols : List ℕ} {p t prefix : ℕ} {after : List ℕ} {left r : ℕ} → 1 ≤ t → Tried list cols p t prefix after left r → left ≡ 0
    → (d : ℕ) → d + p ≤ 32 → Tried list cols (d + p) t prefix after left r
tried_wider {p = p} k R z zero h = rw (zero-add p) R
tried_wider {list} {cols} {p} {t} {prefix} {after} {left} {r} k R z (suc d) h =
    let under : suc d + p - 1 ≡ d + p = omega arith in
    let low : Tried list cols (suc d + p - 1) t prefix after left r = rw under (tried_wider k R z d (omega arith)) in
    rw (add-zero r) at (tried-both h (omega arith) k low (tried_none R.left z))

-- ---- the places below m are free

module _ {list cols : List ℕ} {m t prefix s blank : ℕ} (T : Trying list cols m t prefix s blank) where
  -- the words that have no place from p on
  trying-low : {p : ℕ} → p ≤ m → Trying list cols p t prefix s blank
  trying-low {p} h = record {
    columns = T.columns;
    places = omega (arith, T.places);
    some = T.some;
    above = (T.above.0 * 2 ^ (m - p), T.above.1 ∙ ap (λ (x : ℕ). T.above.0 * x) parts ∙ sym (mul_assoc T.above.0 (2 ^ (m - p)) (2 ^ p)));
    room = omega (arith, T.room, pow_mono {i = p} {j = m} h);
    light = T.light;
    at = T.at;
    entries = T.entries;
    left = T.left;
    more = T.more;
  }
    where
      parts : 2 ^ m ≡ 2 ^ (m - p) * 2 ^ p
      parts = let e : m ≡ m - p + p = omega arith in ap (λ (x : ℕ). 2 ^ x) e ∙ pow-add 2 (m - p) p

  -- place p is added to the prefix
  module _ {p : ℕ} (h : p < m) where
    -- it weighs one more
    place-weight : weight (prefix + 2 ^ p) ≡ weight prefix + 1
    place-weight =
        let (a, above) = T.above in
        let e : weight prefix ≡ weight a + 0
        = ap weight (above ∙ sym (add-zero (a * 2 ^ m))) ∙ ones_cat m a 0 (pow_pos m) ∙ ap (λ (x : ℕ). weight a + x) weight-zero in
        let f : weight (prefix + 2 ^ p) ≡ weight a + 1
        = ap (λ (x : ℕ). weight (x + 2 ^ p)) above ∙ ones_cat m a (2 ^ p) (pow-lt h) ∙ ap (λ (x : ℕ). weight a + x) (weight-pow p) in
        omega arith

    -- its syndrome takes that place's column
    place-syndrome : s ⊕ get_or cols p 0 ≡ encode cols (prefix + 2 ^ p)
    place-syndrome =
        let (a, above) = T.above in
        let sum : prefix ⊕ 2 ^ p ≡ prefix + 2 ^ p
        = ap (λ (x : ℕ). x ⊕ 2 ^ p) above ∙ xor_shifted a m (2 ^ p) (pow-lt h) ∙ ap (λ (x : ℕ). x + 2 ^ p) (sym above) in
        ap₂ ◌⊕◌ T.at (sym (row_message cols p (omega (arith, T.columns, T.places)))) ∙ sym (encode-xor cols prefix (2 ^ p)) ∙ ap (encode cols) sum

    one_at_lem : one_at p ≡ 2 ^ p
    one_at_lem = shl_one p 32 (omega (arith, T.places))

    pub place_fits : prefix + one_at p < 2 ^ 32
    place_fits = rw one_at_lem (omega (arith, T.room, pow-lt h))

    -- then those that have place p and none above it
    pub trying_high : {after : List ℕ} {left r : ℕ} → 2 ≤ t → Tried list cols p t prefix after left r → 1 ≤ left
        → Trying after cols p (t - 1) (prefix + one_at p) (s ⊕ get_or cols p 0) left
    trying_high two R more =
        let (a, above) = (trying-low (le_of_lt h)).above in
        rw one_at_lem (record {
          columns = T.columns;
          places = omega (arith, T.places);
          some = omega arith;
          above = (a + 1, ap (λ (x : ℕ). x + 2 ^ p) above ∙ sym (add-mul a 1 (2 ^ p) ∙ ap (λ (x : ℕ). a * 2 ^ p + x) (one-mul (2 ^ p))));
          room = omega (arith, (trying-low h).room, pow-suc 2 p);
          light = omega (arith, T.light, place-weight);
          at = place-syndrome;
          entries = λ w. rw (tried_long R) (T.entries w);
          left = R.left;
          more = more;
        })

-- ---- the words by their highest place

-- those whose places lie below p have been tried, and an entry is blank
pub record Rising (list₀ cols : List ℕ) (m t prefix s blank : ℕ) (list : List ℕ) (left r p : ℕ) : Type 0 where
  pub trying : Trying list₀ cols m t prefix s blank
  pub upto : (p ≤ m) ⊎ (p < t)
  pub so_far : Tried list₀ cols p t prefix list left r
  pub more : 1 ≤ left

-- no word has fewer places than ones
pub rising_start : {list cols : List ℕ} {m t prefix s blank : ℕ} → Trying list cols m t prefix s blank
    → Rising list cols m t prefix s blank list blank 0 (t - 1)
rising_start T = record {
  trying = T;
  upto = inr (omega (arith, T.some));
  so_far = tried_few T.left (omega (arith, T.some));
  more = T.more;
}

module _ {list₀ cols : List ℕ} {m t prefix s blank : ℕ} {list : List ℕ} {left r p : ℕ} (P : Rising list₀ cols m t prefix s blank list left r p) where
  -- those with p as their highest place are next
  module _ {after : List ℕ} {end r' : ℕ} (h : p < m) (S : Tried list cols p (t - 1) (prefix + one_at p) after end r') where
    with_place : Tried list₀ cols (p + 1) t prefix after end (r + r')
    with_place =
        let under : p + 1 - 1 ≡ p = omega arith in
        tried-both {between = list} {left = left} (omega (arith, P.trying.places)) (omega arith) P.trying.some (rw under P.so_far) (rw under S)

    pub rising_next : 1 ≤ end → Rising list₀ cols m t prefix s blank after end (r + r') (p + 1)
    rising_next more = record { trying = P.trying; upto = inl (omega arith); so_far = with_place; more = more }

    -- no entry is blank any more, and the others would change nothing
    pub rising-full : end ≡ 0 → Tried list₀ cols m t prefix after end (r + r')
    rising-full z =
        let e : m - (p + 1) + (p + 1) ≡ m = omega arith in
        rw e at (tried_wider P.trying.some with_place z (m - (p + 1)) (omega (arith, P.trying.places)))

  -- all have been tried
  pub rising_end : m ≤ p → Tried list₀ cols m t prefix list left r
  rising_end h = go P.upto
    where
      go : (p ≤ m) ⊎ (p < t) → Tried list₀ cols m t prefix list left r
      go (inl l) = let e : p ≡ m = omega arith in rw e at P.so_far
      go (inr l) =
          let e : words p t ≡ words m t = words_few p t l ∙ sym (words_few m t (omega arith)) in
          record {
            filled = P.so_far.filled ∙ ap (λ (ws : List ℕ). fills (encode cols) list₀ (map (λ w. prefix + w) ws)) e;
            left = P.so_far.left;
            count = P.so_far.count ∙ ap (λ (ws : List ℕ). tried (encode cols) list₀ (map (λ w. prefix + w) ws)) e;
          }

-- ---- one place more: the words prefix + 2 ^ p, one after the other

module _ {list₀ cols : List ℕ} {m prefix s blank : ℕ} {list : List ℕ} {left p : ℕ} (U : Rising list₀ cols m 1 prefix s blank list left p p) where
  module _ (h : p < m) where
    -- the entry that the word asks for, in the list at first and now
    pub unit_slot : s ⊕ get_or cols p 0 < length list₀
    unit_slot = rw (place-syndrome U.trying h) (U.trying.entries (prefix + 2 ^ p))

    pub unit_entry : s ⊕ get_or cols p 0 < length list
    unit_entry = rw (tried_long U.so_far) unit_slot

    once : tried (encode cols) list (tries (prefix + 2 ^ p) p 0) ≡ 1
    once = tried_next (encode cols) (prefix + 2 ^ p + 0) [] list (omega (arith, U.so_far.left, U.more))

    -- a blank entry takes the word, and one blank less is left
    module _ (e : get_or list (s ⊕ get_or cols p 0) 0 ≡ no_leader) where
      less : blank_count (set list (s ⊕ get_or cols p 0) (prefix + 2 ^ p)) + 1 ≡ left
      less =
          let light = light_word (prefix + 2 ^ p) (omega (arith, place-weight U.trying h, U.trying.light)) in
          blank_set list (s ⊕ get_or cols p 0) (prefix + 2 ^ p) unit_entry e light ∙ sym U.so_far.left

      pub unit_stored : Tried list cols p 0 (prefix + one_at p) (set list (s ⊕ get_or cols p 0) (prefix + one_at p)) (left - 1) 1
      unit_stored =
          let at = place-syndrome U.trying h in
          rw (one_at_lem U.trying h) (record {
            filled = ap (λ (x : ℕ). set list x (prefix + 2 ^ p)) at
                ∙ sym (ap (fill (encode cols) list) (add-zero (prefix + 2 ^ p))
                ∙ fill_blank (encode cols) list (prefix + 2 ^ p) (ap (λ (x : ℕ). get_or list x 0) (sym at) ∙ e));
            left = omega (arith, less);
            count = sym once;
          })

    pub unit_held : get_or list (s ⊕ get_or cols p 0) 0 ≢ no_leader → Tried list cols p 0 (prefix + one_at p) list left 1
    unit_held ne = rw (one_at_lem U.trying h) (record {
      filled = sym (ap (fill (encode cols) list) (add-zero (prefix + 2 ^ p))
          ∙ fill_held (encode cols) list (prefix + 2 ^ p) (λ q. ne (ap (λ (x : ℕ). get_or list x 0) (place-syndrome U.trying h) ∙ q)));
      left = U.so_far.left;
      count = sym once;
    })

-- ---- the same of the list that is being filled, which keeps its columns and the list that it was lent

pub record Growing (before : Filling) (m t prefix s : ℕ) (b : Filling) (r p : ℕ) : Type 0 where
  pub rising : Rising before.list.now b.cols m t prefix s before.blank b.list.now b.blank r p
  pub columns : b.cols ≡ before.cols
  pub lent : b.list.ghost_name ≡ before.list.ghost_name

pub growing_start : {b : Filling} {m t prefix s : ℕ} → TryingIn b m t prefix s → Growing b m t prefix s b 0 (t - 1)
growing_start T = record { rising = rising_start T; columns = refl; lent = refl }

by_columns : {before cols cols' : List ℕ} {m t prefix : ℕ} {after : List ℕ} {blank r : ℕ} → cols ≡ cols' → Tried before cols m t prefix after blank r
    → Tried before cols' m t prefix after blank r
by_columns e R = rw e at R

rising_by : {before cols cols' : List ℕ} {m t prefix s blank : ℕ} {list : List ℕ} {left r p : ℕ} → cols ≡ cols'
    → Rising before cols m t prefix s blank list left r p → Rising before cols' m t prefix s blank list left r p
rising_by e R = rw e at R

module _ {before : Filling} {m t prefix s : ℕ} {b : Filling} {r p : ℕ} (G : Growing before m t prefix s b r p) where
  pub growing-small : p ≤ m → r ≤ 2 ^ 32
  growing-small h = tried-small G.rising.so_far (omega (arith, G.rising.trying.places))

  module _ (h : p < m) where
    pub growing_fits : prefix + one_at p < 2 ^ 32
    growing_fits = place_fits G.rising.trying h

    pub growing_high : 2 ≤ t → TryingIn b p (t - 1) (prefix + one_at p) (s ⊕ get_or b.cols p 0)
    growing_high two = trying_high G.rising.trying h two G.rising.so_far G.rising.more

    module _ {after : Filling} {r' : ℕ} (S : TriedIn b p (t - 1) (prefix + one_at p) after r') where
      pub growing_next : 1 ≤ after.blank → Growing before m t prefix s after (r + r') (p + 1)
      growing_next more = record {
        rising = rising_by (sym S.columns) (rising_next G.rising h S.tried more);
        columns = S.columns ∙ G.columns;
        lent = S.lent ∙ G.lent;
      }

      pub growing-full : after.blank ≡ 0 → TriedIn before m t prefix after (r + r')
      growing-full z = record {
        tried = by_columns G.columns (rising-full G.rising h S.tried z);
        columns = S.columns ∙ G.columns;
        lent = S.lent ∙ G.lent;
      }

  pub growing_end : m ≤ p → TriedIn before m t prefix b r
  growing_end h = record { tried = by_columns G.columns (rising_end G.rising h); columns = G.columns; lent = G.lent }

-- ---- weight by weight

-- the words of weight below t have been tried on a blank list, r of them
pub record Offered (size : ℕ) (cols : List ℕ) (n c t : ℕ) (list : List ℕ) (left r : ℕ) : Type 0 where
  pub columns : length cols ≡ 32
  pub places : n ≤ 32
  pub light : c < 32
  pub entries : (w : ℕ) → encode cols w < size
  pub some : 1 ≤ t
  pub upto : t ≤ c + 1
  pub long : length list ≡ size
  pub filled : list ≡ fills (encode cols) (blanks size) (order n t)
  pub counted : left ≡ blank_count list
  pub number : r ≡ tried (encode cols) (blanks size) (order n t)

-- the same of the list that is being filled
pub record OfferedIn (before : Filling) (n c t : ℕ) (b : Filling) (r : ℕ) : Type 0 where
  pub offered : Offered (length before.list.now) b.cols n c t b.list.now b.blank r
  pub columns : b.cols ≡ before.cols
  pub lent : b.list.ghost_name ≡ before.list.ghost_name

offered_by : {size : ℕ} {cols cols' : List ℕ} {n c t : ℕ} {list : List ℕ} {left r : ℕ} → cols ≡ cols' → Offered size cols n c t list left r
    → Offered size cols' n c t list left r
offered_by e R = rw e at R

-- the zero word takes entry 0 of a blank list
module _ {list : List ℕ} (size : ℕ) (e : list ≡ blanks size) where
  pub zero_long : length (set list 0 0) ≡ size
  zero_long = length-set list 0 0 ∙ ap length e ∙ length-replicate size no_leader

  pub offered_start : {cols : List ℕ} {n c : ℕ} → length cols ≡ 32 → n ≤ 32 → c < 32 → ((w : ℕ) → encode cols w < size)
      → Offered (length (set list 0 0)) cols n c 1 (set list 0 0) (length (set list 0 0) - 1) 1
  offered_start {cols} columns places light entries =
      let h : 0 < size = rw (encode-zero cols) at (entries 0) in
      let b : get_or (blanks size) 0 0 ≡ no_leader = get_or-replicate size 0 no_leader 0 h in
      rw (zero_long, e) (record {
        columns = columns;
        places = places;
        light = light;
        entries = entries;
        some = omega arith;
        upto = omega arith;
        long = rw e at zero_long;
        filled = ap (λ (x : ℕ). set (blanks size) x 0) (sym (encode-zero cols))
            ∙ sym (fill_blank (encode cols) (blanks size) 0 (ap (λ (x : ℕ). get_or (blanks size) x 0) (encode-zero cols) ∙ b));
        counted = omega
            (arith, blank_set (blanks size) 0 0 (rw (length-replicate size no_leader) h) b (light_word 0 (omega (arith, weight-zero))), blank_all size);
        number = sym (tried_next (encode cols) 0 [] (blanks size) (rw (blank_all size) h));
      })

module _ {size : ℕ} {cols : List ℕ} {n c t : ℕ} {list : List ℕ} {left r : ℕ} (O : Offered size cols n c t list left r) where
  pub offered-trying : t ≤ c → 1 ≤ left → Trying list cols n t 0 0 left
  offered-trying h more = record {
    columns = O.columns;
    places = O.places;
    some = O.some;
    above = (0, sym (zero-mul (2 ^ n)));
    room = rw (zero-add (2 ^ n)) (pow_mono {i = n} {j = 32} O.places);
    light = omega (arith, weight-zero, O.light);
    at = sym (encode-zero cols);
    entries = λ w. rw O.long (O.entries w);
    left = O.counted;
    more = more;
  }

  pub offered_next : {after : List ℕ} {more r' : ℕ} → t ≤ c → Tried list cols n t 0 after more r' → Offered size cols n c (t + 1) after more (r + r')
  offered_next h R = rw (add-one t) (record {
    columns = O.columns;
    places = O.places;
    light = O.light;
    entries = O.entries;
    some = omega arith;
    upto = omega arith;
    long = tried_long R ∙ O.long;
    filled = R.filled ∙ ap (fills (encode cols) list) (map-zero (words n t)) ∙ ap (λ (l : List ℕ). fills (encode cols) l (words n t)) O.filled
        ∙ sym (fills-append (encode cols) (blanks size) (order n t) (words n t));
    counted = R.left;
    number = ap₂ ◌+◌ O.number (R.count ∙ ap (tried (encode cols) list) (map-zero (words n t))
        ∙ ap (λ (l : List ℕ). tried (encode cols) l (words n t)) O.filled)
        ∙ sym (tried-append (encode cols) (blanks size) (order n t) (words n t));
  })
    where
      map-zero : (l : List ℕ) → map (λ w. 0 + w) l ≡ l
      map-zero [] = refl
      map-zero (x ∷ l) = ap₂ ◌∷◌ (zero-add x) (map-zero l)

  -- how many were tried fits 32 bits: the order has fewer words than there are numbers of 32 places
  pub offered-small : r < 2 ^ 32
  offered-small = go (dec_le t n)
    where
      most : r ≤ length (order n t)
      most = rw O.number (tried-le (encode cols) (order n t) (blanks size))

      go : Dec (t ≤ n) → r < 2 ^ 32
      go (yes l) = omega (arith, most, order_fewer n t l, pow_mono {i = n} {j = 32} O.places)
      go (no k) = omega (arith, most, order-count n t, pow-lt {i = n} {j = 32} (omega (arith, O.upto, O.light)))

  -- heavier words change nothing where no entry is blank
  pub offered_end : (c < t) ⊎ (left ≡ 0)
      → (list ≡ fills (encode cols) (blanks size) (order n (suc c))) × (r ≡ tried (encode cols) (blanks size) (order n (suc c)))
  offered_end (inl h) = let e : t ≡ suc c = omega (arith, O.upto) in (rw e at O.filled, rw e at O.number)
  offered_end (inr z) = let e : suc c - t + t ≡ suc c = omega (arith, O.upto) in rw e at (heavier (suc c - t))
    where
      heavier : (d : ℕ) → (list ≡ fills (encode cols) (blanks size) (order n (d + t))) × (r ≡ tried (encode cols) (blanks size) (order n (d + t)))
      heavier zero = rw (zero-add t) (O.filled, O.number)
      heavier (suc d) =
          let (f, k) = heavier d in
          let more = words n (d + t) in
          rw (suc-add d t) (
            f ∙ sym (fills-append (encode cols) (blanks size) (order n (d + t)) more ∙ ap (λ (l : List ℕ). fills (encode cols) l more) (sym f)
                ∙ fills_done (encode cols) more list (sym O.counted ∙ z) ∙ f),
            sym (tried-append (encode cols) (blanks size) (order n (d + t)) more
                ∙ ap₂ ◌+◌ (sym k) (ap (λ (l : List ℕ). tried (encode cols) l more) (sym f) ∙ tried_done (encode cols) more list (sym O.counted ∙ z))
                ∙ add-zero r),
          )

module _ {before : Filling} {n c t : ℕ} {b : Filling} {r : ℕ} (O : OfferedIn before n c t b r) where
  pub offered_more : {after : Filling} {r' : ℕ} → t ≤ c → TriedIn b n t 0 after r' → OfferedIn before n c (t + 1) after (r + r')
  offered_more h S = record {
    offered = offered_by (sym S.columns) (offered_next O.offered h S.tried);
    columns = S.columns ∙ O.columns;
    lent = S.lent ∙ O.lent;
  }

  pub offered_all : {cols : List ℕ} {size : ℕ} → before.cols ≡ cols → length before.list.now ≡ size → (c < t) ⊎ (b.blank ≡ 0)
      → (b.list.now ≡ fills (encode cols) (blanks size) (order n (suc c))) × (r ≡ tried (encode cols) (blanks size) (order n (suc c)))
  offered_all e z over = rw (z, O.columns ∙ e) at (offered_end O.offered over)
