-- Laws of the build: each word in turn takes the entry of its syndrome where that is blank, so every entry ends with the leader of its
-- syndrome; the recursion over the words of one weight, and when it may end. Assumes nothing.
use mathlib.Core.Path.{◌≡◌, refl, sym, ap, ap₂, ◌∙◌}
use mathlib.Core.Logic.{◌≢◌}
use mathlib.Core.List.{List, [], ◌∷◌, ◌++◌, map}
use mathlib.Core.Option.{Option, none, some}
use mathlib.Core.Bool.{Bool, true, false, not, cond, ◌&&◌}
use Prim.Native.Nat.{ℕ, zero, suc, ◌+◌, ◌-◌, ◌^◌, ◌≤◌, ◌<◌, suc-le-suc}
use native.Mathlib.Nat.{pow-suc, add_assoc}
use native.Mathlib.Decide.{ℕ_discrete}
use native.Mathlib.Omega.{arith}
use lib.Dec.{eqb}
use lib.ListN.{length, get_or, set, length-set, length-replicate, get_or-replicate}
use lib.Seq.{get_or-set_same, get_or-set_other, ext_get_or}
use lib.Pow.{pow_pos}
use lib.Count.{ones-ones}
use borrow.Author.Tests.{eq-eqb, ne_eqb, eqb-true}
use Rattle.coding.specs.Word.{weight}
use Rattle.coding.specs.Matrix.{Inside}
use Rattle.coding.specs.Check.{frees}
use Rattle.coding.specs.Leader.{syndrome_of, no_leader, having, leader_of}
use Rattle.coding.specs.Lightest.{or_else}
use Rattle.coding.specs.Weight.{count}
use Rattle.coding.specs.Order.{words, order, fill, fills, blanks}
use Rattle.coding.specs.Tries.{blank_count}
use Rattle.coding.proofs.WeightLaws.{weight-zero}
use Rattle.coding.proofs.CountLaws.{count-without, count_same, count_some, count-all}
use Rattle.coding.proofs.LightestLaws.{lightest-one}
use Rattle.coding.proofs.OrderLaws.{first_in, pick_first, weight_top, InOrder, first-lightest}
use Rattle.coding.proofs.LeaderLaws.{leader_lightest, leader_light}

suc_less : (k : ℕ) → suc k - 1 ≡ k
suc_less k = omega arith

abbrev pub All : (ℕ → Type 0) → List ℕ → Type 0
All P [] = Unit {0}
All P (w ∷ ws) = P w × All P ws

-- ---- an entry that is not blank stays; a blank one takes the first word that has its syndrome

fill_kept : (syn : ℕ → ℕ) (L : List ℕ) (w s : ℕ) → get_or L s 0 ≢ no_leader → get_or (fill syn L w) s 0 ≡ get_or L s 0
fill_kept syn L w s ne = go (ℕ_discrete s (syn w)) (eqb (get_or L (syn w) 0) (no_leader)) refl
  where
    go : Dec (s ≡ syn w) → (b : Bool) → eqb (get_or L (syn w) 0) (no_leader) ≡ b → get_or (cond b (set L (syn w) w) L) s 0 ≡ get_or L s 0
    go d false q = refl
    go (no k) true q = get_or-set_other L (syn w) s w 0 k
    go (yes e) true q = absurd (ne (ap (λ (x : ℕ). get_or L x 0) e ∙ eqb-true (get_or L (syn w) 0) (no_leader) q))

pub fills_kept : (syn : ℕ → ℕ) (ws L : List ℕ) (s : ℕ) → get_or L s 0 ≢ no_leader → get_or (fills syn L ws) s 0 ≡ get_or L s 0
fills_kept syn [] L s ne = refl
fills_kept syn (w ∷ ws) L s ne =
    let e : get_or (fill syn L w) s 0 ≡ get_or L s 0 = fill_kept syn L w s ne in
    fills_kept syn ws (fill syn L w) s (λ z. ne (sym e ∙ z)) ∙ e

pub fill-length : (syn : ℕ → ℕ) (L : List ℕ) (w : ℕ) → length (fill syn L w) ≡ length L
fill-length syn L w = go (eqb (get_or L (syn w) 0) (no_leader))
  where
    go : (b : Bool) → length (cond b (set L (syn w) w) L) ≡ length L
    go true = length-set L (syn w) w
    go false = refl

pub fills-length : (syn : ℕ → ℕ) (ws L : List ℕ) → length (fills syn L ws) ≡ length L
fills-length syn [] L = refl
fills-length syn (w ∷ ws) L = fills-length syn ws (fill syn L w) ∙ fill-length syn L w

pub fills_first : (syn : ℕ → ℕ) (ws L : List ℕ) (s : ℕ) → All (λ w. w ≢ no_leader) ws → s < length L → get_or L s 0 ≡ no_leader
    → get_or (fills syn L ws) s 0 ≡ or_else no_leader (first_in (having syn s) ws)
fills_first syn [] L s a h z = z
fills_first syn (w ∷ ws) L s (b, a) h z =
    go (ℕ_discrete (syn w) s) (fills_kept syn ws (fill syn L w) s) (fills_first syn ws (fill syn L w) s a (rw (fill-length syn L w) h))
  where
    go : Dec (syn w ≡ s) → (get_or (fill syn L w) s 0 ≢ no_leader → get_or (fills syn (fill syn L w) ws) s 0 ≡ get_or (fill syn L w) s 0)
        → (get_or (fill syn L w) s 0 ≡ no_leader → get_or (fills syn (fill syn L w) ws) s 0 ≡ or_else no_leader (first_in (having syn s) ws))
        → get_or (fills syn (fill syn L w) ws) s 0 ≡ or_else no_leader (pick_first (having syn s w) w (first_in (having syn s) ws))
    go (yes e) kept more =
        let at : get_or (fill syn L w) s 0 ≡ w =
        ap (λ (b : Bool). get_or (cond b (set L (syn w) w) L) s 0) (eq-eqb (get_or L (syn w) 0) (no_leader) (ap (λ (x : ℕ). get_or L x 0) e ∙ z))
        ∙ ap (λ (x : ℕ). get_or (set L x w) s 0) e ∙ get_or-set_same L s w 0 h in
        kept (λ q. b (sym at ∙ q)) ∙ at
        ∙ ap (λ (b : Bool). or_else no_leader (pick_first b w (first_in (having syn s) ws))) (sym (eq-eqb (syn w) s e))
    go (no k) kept more =
        more (other (eqb (get_or L (syn w) 0) (no_leader)) ∙ z) ∙ ap (λ (b : Bool). or_else no_leader (pick_first b w (first_in (having syn s) ws)))
        (sym (ne_eqb (syn w) s k))
      where
        other : (b : Bool) → get_or (cond b (set L (syn w) w) L) s 0 ≡ get_or L s 0
        other true = get_or-set_other L (syn w) s w 0 (λ e. k (sym e))
        other false = refl

-- ---- the words of the order

pub all_append : (P : ℕ → Type 0) (xs ys : List ℕ) → All P xs → All P ys → All P (xs ++ ys)
all_append P [] ys f g = g
all_append P (x ∷ xs) ys (h, f) g = (h, all_append P xs ys f g)

pub all_map : (P Q : ℕ → Type 0) (h : ℕ → ℕ) → ((w : ℕ) → P w → Q (h w)) → (xs : List ℕ) → All P xs → All Q (map h xs)
all_map P Q h k [] f = tt
all_map P Q h k (x ∷ xs) (l, f) = (k x l, all_map P Q h k xs f)

pub all_more : (P Q : ℕ → Type 0) → ((w : ℕ) → P w → Q w) → (xs : List ℕ) → All P xs → All Q xs
all_more P Q k [] f = tt
all_more P Q k (x ∷ xs) (l, f) = (k x l, all_more P Q k xs f)

abbrev pub Weighs : ℕ → ℕ → ℕ → Type 0
Weighs m t w = (w < 2 ^ m) × (weight w ≡ t)

pub words_are : (m t : ℕ) → All (Weighs m t) (words m t)
words_are m zero = ((pow_pos m, weight-zero), tt)
words_are zero (suc t) = tt
words_are (suc m) (suc t) =
    all_append (Weighs (suc m) (suc t)) (words m (suc t)) (map (λ w. 2 ^ m + w) (words m t))
    (all_more (Weighs m (suc t)) (Weighs (suc m) (suc t)) (λ w h. (omega (arith, pow-suc 2 m, h.0), h.1)) (words m (suc t)) (words_are m (suc t)))
    (all_map (Weighs m t) (Weighs (suc m) (suc t)) (λ w. 2 ^ m + w)
    (λ w h. (omega (arith, pow-suc 2 m, h.0), weight_top m w h.0 ∙ ap suc h.1)) (words m t) (words_are m t))

pub order_light : (n t : ℕ) → All (λ w. weight w < t) (order n t)
order_light n zero = tt
order_light n (suc t) =
    all_append (λ w. weight w < suc t) (order n t) (words n t)
    (all_more (λ w. weight w < t) (λ w. weight w < suc t) (λ w h. omega arith) (order n t) (order_light n t))
    (all_more (Weighs n t) (λ w. weight w < suc t) (λ w h. omega (arith, h.1)) (words n t) (words_are n t))

-- a word lighter than 32 is not the blank entry
pub light_word : (w : ℕ) → weight w < 32 → w ≢ no_leader
light_word w h e = omega (arith, ap weight e ∙ ones-ones 32)

pub order-words : (n t : ℕ) → t ≤ 32 → All (λ w. w ≢ no_leader) (order n t)
order-words n t h = all_more (λ w. weight w < t) (λ w. w ≢ no_leader) (λ w l. light_word w (omega arith)) (order n t) (order_light n t)

-- ---- the build: every entry holds the leader of its syndrome

pub built : (n : ℕ) (rs : List ℕ) → Inside n rs → length (frees n rs) < 32
    → (s : ℕ) → s < 2 ^ length (frees n rs)
    → get_or (fills (syndrome_of n rs) (blanks (2 ^ length (frees n rs))) (order n (suc (length (frees n rs))))) s 0 ≡ leader_of n rs s
built n rs fits small s h =
    fills_first (syndrome_of n rs) (order n (suc c)) (blanks (2 ^ c)) s
    (order-words n (suc c) small) (rw (length-replicate (2 ^ c) (no_leader)) h) (get_or-replicate (2 ^ c) s (no_leader) 0 h)
    ∙ go (first_in p (order n (suc c))) (first-lightest n (suc c) p)
  where
    c : ℕ
    c = length (frees n rs)

    p : ℕ → Bool
    p = having (syndrome_of n rs) s

    go : (o : Option ℕ) → InOrder p n (suc c) o → or_else no_leader o ≡ leader_of n rs s
    go none f = absurd (f (leader_of n rs s) (leader_lightest n rs fits s h).below (suc-le-suc (leader_light n rs fits s h))
        (leader_lightest n rs fits s h).passes)
    go (some b) f = lightest-one p (2 ^ n) b (leader_of n rs s) f.0 (leader_lightest n rs fits s h)

-- ---- the recursion that goes through the words of one weight

pub fills-append : (syn : ℕ → ℕ) (L xs ys : List ℕ) → fills syn L (xs ++ ys) ≡ fills syn (fills syn L xs) ys
fills-append syn L [] ys = refl
fills-append syn L (x ∷ xs) ys = fills-append syn (fill syn L x) xs ys

map-append : (h : ℕ → ℕ) (xs ys : List ℕ) → map h (xs ++ ys) ≡ map h xs ++ map h ys
map-append h [] ys = refl
map-append h (x ∷ xs) ys = ap (λ (l : List ℕ). h x ∷ l) (map-append h xs ys)

map_shift : (a b : ℕ) (xs : List ℕ) → map (λ w. a + w) (map (λ w. b + w) xs) ≡ map (λ w. a + b + w) xs
map_shift a b [] = refl
map_shift a b (x ∷ xs) = ap₂ (λ (y : ℕ) (l : List ℕ). y ∷ l) (sym (add_assoc a b x)) (map_shift a b xs)

-- the words from the prefix a on, of m places and weight t: first those without the highest place, then those with it
pub words_step : (m t a : ℕ) → 0 < m → 0 < t
    → map (λ w. a + w) (words m t) ≡ map (λ w. a + w) (words (m - 1) t) ++ map (λ w. a + 2 ^ (m - 1) + w) (words (m - 1) (t - 1))
words_step zero t a h k = absurd (omega arith)
words_step (suc m) zero a h k = absurd (omega arith)
words_step (suc m) (suc t) a h k =
    rw (suc_less m, suc_less t)
    (map-append (λ w. a + w) (words m (suc t)) (map (λ w. 2 ^ m + w) (words m t))
    ∙ ap (λ (l : List ℕ). map (λ w. a + w) (words m (suc t)) ++ l) (map_shift a (2 ^ m) (words m t)))

pub fill_blank : (syn : ℕ → ℕ) (L : List ℕ) (w : ℕ) → get_or L (syn w) 0 ≡ no_leader → fill syn L w ≡ set L (syn w) w
fill_blank syn L w e = ap (λ (b : Bool). cond b (set L (syn w) w) L) (eq-eqb (get_or L (syn w) 0) (no_leader) e)

pub fill_held : (syn : ℕ → ℕ) (L : List ℕ) (w : ℕ) → get_or L (syn w) 0 ≢ no_leader → fill syn L w ≡ L
fill_held syn L w ne = ap (λ (b : Bool). cond b (set L (syn w) w) L) (ne_eqb (get_or L (syn w) 0) (no_leader) ne)

-- ---- ending sooner: fewer places than weight leave no word, and a list with no blank entry does not change

pub words_few : (m t : ℕ) → m < t → words m t ≡ []
words_few m zero h = absurd (omega arith)
words_few zero (suc t) h = refl
words_few (suc m) (suc t) h =
    ap₂ (λ (xs ys : List ℕ). xs ++ map (λ w. 2 ^ m + w) ys) (words_few m (suc t) (omega arith)) (words_few m t (omega arith))

pub fills-full : (syn : ℕ → ℕ) (ws L : List ℕ) → ((s : ℕ) → s < length L → get_or L s 0 ≢ no_leader) → fills syn L ws ≡ L
fills-full syn ws L f =
    ext_get_or 0 (fills syn L ws) L (fills-length syn ws L) (λ s h. fills_kept syn ws L s (f s (rw (fills-length syn ws L) at h)))

-- ---- how many entries are blank

-- one less when a blank entry takes a word
pub blank_set : (L : List ℕ) (s w : ℕ) → s < length L → get_or L s 0 ≡ no_leader → w ≢ no_leader → blank_count (set L s w) + 1 ≡ blank_count L
blank_set L s w h e ne =
    let old : blank_count L ≡ 1 + count (λ i. eqb (get_or L i 0) no_leader && not (eqb i s)) (length L)
    = count-without (λ i. eqb (get_or L i 0) no_leader) (length L) s h
    ∙ ap (λ (b : Bool). cond b 1 0 + count (λ i. eqb (get_or L i 0) no_leader && not (eqb i s)) (length L)) (eq-eqb (get_or L s 0) no_leader e) in
    let new : blank_count (set L s w) ≡ 0 + count (λ i. eqb (get_or (set L s w) i 0) no_leader && not (eqb i s)) (length L)
    = ap (count (λ i. eqb (get_or (set L s w) i 0) no_leader)) (length-set L s w)
    ∙ count-without (λ i. eqb (get_or (set L s w) i 0) no_leader) (length L) s h
    ∙ ap (λ (b : Bool). cond b 1 0 + count (λ i. eqb (get_or (set L s w) i 0) no_leader && not (eqb i s)) (length L))
    (ne_eqb (get_or (set L s w) s 0) no_leader (λ q. ne (sym (get_or-set_same L s w 0 h) ∙ q))) in
    let same : count (λ i. eqb (get_or (set L s w) i 0) no_leader && not (eqb i s)) (length L)
    ≡ count (λ i. eqb (get_or L i 0) no_leader && not (eqb i s)) (length L)
    = count_same (λ i. eqb (get_or (set L s w) i 0) no_leader && not (eqb i s)) (λ i. eqb (get_or L i 0) no_leader && not (eqb i s)) (length L)
    (λ i l. others i (ℕ_discrete i s)) in
    omega (arith, old, new, same)
  where
    never : (b : Bool) → b && false ≡ false
    never true = refl
    never false = refl

    others : (i : ℕ) → Dec (i ≡ s) → eqb (get_or (set L s w) i 0) no_leader && not (eqb i s) ≡ eqb (get_or L i 0) no_leader && not (eqb i s)
    others i (yes q) =
        ap (λ (b : Bool). eqb (get_or (set L s w) i 0) no_leader && not b) (eq-eqb i s q) ∙ never (eqb (get_or (set L s w) i 0) no_leader)
        ∙ sym (ap (λ (b : Bool). eqb (get_or L i 0) no_leader && not b) (eq-eqb i s q) ∙ never (eqb (get_or L i 0) no_leader))
    others i (no k) = ap (λ (x : ℕ). eqb x no_leader && not (eqb i s)) (get_or-set_other L s i w 0 k)

-- where none is, no entry is blank, and no word changes the list
pub blank_none : (L : List ℕ) → blank_count L ≡ 0 → (s : ℕ) → s < length L → get_or L s 0 ≢ no_leader
blank_none L z s h e = omega (arith, z, count_some (λ i. eqb (get_or L i 0) no_leader) (length L) s h (eq-eqb (get_or L s 0) no_leader e))

pub fills_done : (syn : ℕ → ℕ) (ws L : List ℕ) → blank_count L ≡ 0 → fills syn L ws ≡ L
fills_done syn ws L z = fills-full syn ws L (blank_none L z)

pub blank_all : (m : ℕ) → blank_count (blanks m) ≡ m
blank_all m =
    ap (count (λ s. eqb (get_or (blanks m) s 0) no_leader)) (length-replicate m no_leader)
    ∙ count-all (λ s. eqb (get_or (blanks m) s 0) no_leader) m (λ i h. eq-eqb (get_or (blanks m) i 0) no_leader (get_or-replicate m i no_leader 0 h))

-- syndromes that agree on the words fill alike
pub fills_same : (syn syn' : ℕ → ℕ) (ws L : List ℕ) → All (λ w. syn w ≡ syn' w) ws → fills syn L ws ≡ fills syn' L ws
fills_same syn syn' [] L f = refl
fills_same syn syn' (w ∷ ws) L (e, f) =
    ap (λ (s : ℕ). fills syn (cond (eqb (get_or L s 0) no_leader) (set L s w) L) ws) e ∙ fills_same syn syn' ws (fill syn' L w) f

pub order_below : (n t : ℕ) → All (λ w. w < 2 ^ n) (order n t)
order_below n zero = tt
order_below n (suc t) =
    all_append (λ w. w < 2 ^ n) (order n t) (words n t) (order_below n t)
    (all_more (Weighs n t) (λ w. w < 2 ^ n) (λ w h. h.0) (words n t) (words_are n t))
