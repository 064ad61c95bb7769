-- Invariants that loops share, each with its start, its step and its end: a search from the front, a list overwritten from the front, words
-- joined into one, and entries added in front of zeros. Assumes nothing.
use mathlib.Core.Path.{◌≡◌, refl, sym, ap, ap₂, ◌∙◌}
use mathlib.Core.List.{List, [], ◌∷◌, ◌++◌, map, append_assoc, append-nil}
use mathlib.Core.Bool.{Bool, true, false}
use Prim.Native.Nat.{ℕ, zero, suc, ◌+◌, ◌-◌, ◌^◌, ◌≤◌, ◌<◌}
use native.Mathlib.Nat.{le_of_suc-le-suc, zero-add, sub-zero, le_refl}
use native.Mathlib.Numerals.{add-one}
use native.Mathlib.Omega.{arith}
use lib.ListN.{length, get_or, take, drop, set, length-map, length-set, length-replicate, take-append-drop, get_or-eq_default}
use lib.Seq.{take-length, take-nil, drop-nil, take-suc-set, drop-set-lt, drop-cons}
use lib.Pow.{pow_pos}
use lib.Bits.{bit_and, bit_or, or_lt, or_add_and, and_le_l, and_le_r}
use borrow.Author.Count.{below_more}
use Rattle.coding.specs.Lists.{first, zeros, padded, tabulate}
use Rattle.coding.specs.Matrix.{Inside}
use Rattle.coding.proofs.ListLaws.{get_d_map, length-tabulate, get_d_tabulate}
use Rattle.coding.proofs.SearchLaws.{first_is}

-- ---- a search from the front: no index before i passes the test

pub record Searched (p : ℕ → Bool) (m i : ℕ) : Type 0 where
  pub within : i ≤ m
  pub none : (j : ℕ) → j < i → p j ≡ false

pub search_start : (p : ℕ → Bool) (m : ℕ) → Searched p m 0
search_start p m = record { within = omega arith; none = λ j h. absurd (omega arith) }

module _ {p : ℕ → Bool} {m i : ℕ} (S : Searched p m i) where
  pub search_next : i < m → p i ≡ false → Searched p m (i + 1)
  search_next h e = record { within = omega arith; none = below_more _ _ S.none e }

  -- i passes
  pub search_hit : i < m → p i ≡ true → i ≡ first p m
  search_hit h e = sym (first_is p m i S.within S.none (λ _. e))

  -- none is left
  pub search_end : m ≤ i → i ≡ first p m
  search_end h = sym (first_is p m i S.within S.none (λ l. absurd (omega arith)))

-- ---- a list overwritten from the front: the first i entries are those of new, the others are as they were

abbrev pub over : List ℕ → List ℕ → ℕ → List ℕ
over new old i = take i new ++ drop i old

over-set-suc : (new old : List ℕ) (i : ℕ) → i < length new → i < length old → set (over new old i) i (get_or new i 0) ≡ over new old (suc i)
over-set-suc [] old i h k = absurd (omega arith)
over-set-suc (x ∷ new) [] i h k = absurd (omega arith)
over-set-suc (x ∷ new) (y ∷ old) zero h k = refl
over-set-suc (x ∷ new) (y ∷ old) (suc i) h k = ap (λ (l : List ℕ). x ∷ l) (over-set-suc new old i (le_of_suc-le-suc h) (le_of_suc-le-suc k))

pub over-set : (new old : List ℕ) (i v : ℕ) → i < length new → i < length old → v ≡ get_or new i 0 → set (over new old i) i v ≡ over new old (i + 1)
over-set new old i v h k e = rw (add-one, e) (over-set-suc new old i h k)

-- the entry that is next is still the old one
pub over_next : (new old : List ℕ) (i : ℕ) → i ≤ length new → get_or (over new old i) i 0 ≡ get_or old i 0
over_next new old zero h = refl
over_next [] old (suc i) h = absurd (omega arith)
over_next (x ∷ new) [] (suc i) h =
    ap (λ (l : List ℕ). get_or (take i new ++ l) i 0) (sym (drop-nil i)) ∙ over_next new [] i (le_of_suc-le-suc h)
    ∙ get_or-eq_default [] 0 {n = i} (omega arith)
over_next (x ∷ new) (y ∷ old) (suc i) h = over_next new old i (le_of_suc-le-suc h)

-- a whole list of the same length is replaced
pub over_whole : (new old : List ℕ) (i : ℕ) → length new ≡ length old → length old ≤ i → over new old i ≡ new
over_whole [] [] i e h = ap₂ ◌++◌ (take-nil i) (drop-nil i)
over_whole [] (y ∷ old) i e h = absurd (omega arith)
over_whole (x ∷ new) [] i e h = absurd (omega arith)
over_whole (x ∷ new) (y ∷ old) zero e h = absurd (omega arith)
over_whole (x ∷ new) (y ∷ old) (suc i) e h = ap (λ (l : List ℕ). x ∷ l) (over_whole new old i (omega arith) (omega arith))

pub record Over (new old : List ℕ) (i : ℕ) (l : List ℕ) : Type 0 where
  pub long : length l ≡ length old
  pub list : l ≡ over new old i

pub over_start : (new old : List ℕ) → Over new old 0 old
over_start new old = record { long = refl; list = refl }

module _ {new old : List ℕ} {i : ℕ} {l : List ℕ} (O : Over new old i l) where
  pub over_step : (v : ℕ) → i < length new → i < length old → v ≡ get_or new i 0 → Over new old (i + 1) (set l i v)
  over_step v h k e = record {
    long = length-set l i v ∙ O.long;
    list = ap (λ (x : List ℕ). set x i v) O.list ∙ over-set new old i v h k e;
  }

  -- all of new is there
  pub over_end : i ≡ length new → l ≡ new ++ drop (length new) old
  over_end e = O.list ∙ rw (e, take-length)

  -- and there is nothing after it
  pub over-full : length new ≡ length old → length old ≤ i → l ≡ new
  over-full e h = O.list ∙ over_whole new old i e h

-- the new entries are the values of a function at the entries of another list
module _ (f : ℕ → ℕ) (ws : List ℕ) {old : List ℕ} {i : ℕ} {l : List ℕ} (O : Over (map f ws) old i l) where
  pub over-map_step : (v : ℕ) → i < length ws → i < length old → v ≡ f (get_or ws i 0) → Over (map f ws) old (i + 1) (set l i v)
  over-map_step v h k e = over_step O v (rw (length-map ws f) h) k (e ∙ sym (get_d_map f ws i h))

  pub over-map-full : length ws ≡ length old → length old ≤ i → l ≡ map f ws
  over-map-full e h = over-full O (length-map ws f ∙ e) h

-- or at the numbers below m
module _ (f : ℕ → ℕ) (m : ℕ) {old : List ℕ} {i : ℕ} {l : List ℕ} (O : Over (tabulate f m) old i l) where
  pub over-tabulate_step : (v : ℕ) → i < m → i < length old → v ≡ f i → Over (tabulate f m) old (i + 1) (set l i v)
  over-tabulate_step v h k e = over_step O v (rw (length-tabulate f m) h) k (e ∙ sym (get_d_tabulate f m i h))

  pub over-tabulate_end : i ≡ m → l ≡ tabulate f m ++ drop m old
  over-tabulate_end e =
      let long = length-tabulate f m in
      over_end O (e ∙ sym long) ∙ ap (λ (x : ℕ). tabulate f m ++ drop x old) long

  pub over-tabulate-full : m ≡ length old → length old ≤ i → l ≡ tabulate f m
  over-tabulate-full e h = over-full O (length-tabulate f m ∙ e) h

-- ---- the first i words joined, a one wherever one of them has one: it has n places exactly when each of them has

pub record Gathered (n : ℕ) (l : List ℕ) (i all : ℕ) : Type 0 where
  pub within : i ≤ length l
  pub each : all < 2 ^ n → (j : ℕ) → j < i → get_or l j 0 < 2 ^ n
  pub joint : ((j : ℕ) → j < i → get_or l j 0 < 2 ^ n) → all < 2 ^ n

pub gathered_start : (n : ℕ) (l : List ℕ) → Gathered n l 0 0
gathered_start n l = record { within = omega arith; each = λ h j k. absurd (omega arith); joint = λ f. pow_pos n }

module _ {n : ℕ} {l : List ℕ} {i all : ℕ} (G : Gathered n l i all) where
  pub gathered_step : i < length l → Gathered n l (i + 1) (bit_or all (get_or l i 0))
  gathered_step more =
      let x = get_or l i 0 in
      let e : bit_or all x + bit_and all x ≡ all + x = or_add_and all x in
      record {
        within = omega arith;
        each = λ h. below_more _ _ (G.each (omega (arith, e, h, and_le_r all x))) (omega (arith, e, h, and_le_l all x));
        joint = λ f. or_lt n all x (G.joint (λ j k. f j (omega arith))) (f i (omega arith));
      }

  pub gathered-each : length l ≤ i → all < 2 ^ n → Inside n l
  gathered-each h a j k = G.each a j (omega arith)

  pub gathered_joint : Inside n l → all < 2 ^ n
  gathered_joint f = G.joint (λ j k. f j (omega (arith, k, G.within)))

suc_less : (k : ℕ) → k ≡ suc k - 1
suc_less k = omega arith

-- ---- entries added one after the other in front of zeros: j are there, and those of left are still to come

pub record Packed (size : ℕ) (out : List ℕ) (j : ℕ) (left all : List ℕ) : Type 0 where
  pub whole : take j out ++ left ≡ all
  pub rest : drop j out ≡ zeros (size - j)
  pub long : length out ≡ size
  pub count : j + length left ≡ length all

pub packed_start : (size : ℕ) (all : List ℕ) → Packed size (zeros size) 0 all all
packed_start size all = record { whole = refl; rest = ap zeros (sym (sub-zero size)); long = length-replicate size 0; count = zero-add (length all) }

module _ (size : ℕ) (out : List ℕ) (j : ℕ) where
  pub packed_room : (v : ℕ) (left all : List ℕ) → Packed size out j (v ∷ left) all → length all ≤ size → j < size
  packed_room v left all P h = omega (arith, P.count)

  pub packed_push : (v : ℕ) (left all : List ℕ) → Packed size out j (v ∷ left) all → length all ≤ size → Packed size (set out j v) (j + 1) left all
  packed_push v left all P h =
      let room : j < length out = omega (arith, P.count, P.long) in
      let more : drop (suc j) out ≡ zeros (size - suc j) = go room in
      record {
        whole = rw (add-one, take-suc-set out j v room, append_assoc) P.whole;
        rest = rw (add-one, drop-set-lt (suc j) out j v (le_refl (suc j))) more;
        long = length-set out j v ∙ P.long;
        count = omega (arith, P.count);
      }
    where
      zeros-drop : (k : ℕ) → drop 1 (zeros k) ≡ zeros (k - 1)
      zeros-drop zero = refl
      zeros-drop (suc k) = ap zeros (suc_less k)

      tail : (l : List ℕ) (x k : ℕ) → x ∷ l ≡ zeros k → l ≡ zeros (k - 1)
      tail l x k e = ap (drop 1) e ∙ zeros-drop k

      go : j < length out → drop (suc j) out ≡ zeros (size - suc j)
      go room =
          let e : size - j - 1 ≡ size - suc j = omega arith in
          tail (drop (suc j) out) (get_or out j 0) (size - j) (sym (drop-cons out j 0 room) ∙ P.rest) ∙ ap zeros e

  pub packed_end : (all : List ℕ) → Packed size out j [] all → j ≤ size → out ≡ padded size all
  packed_end all P h =
      let e : j ≡ length all = omega (arith, P.count) in
      sym (take-append-drop j out)
      ∙ ap₂ ◌++◌ (sym (append-nil (take j out)) ∙ P.whole) (P.rest ∙ ap (λ (k : ℕ). zeros (size - k)) e)
