-- Laws of the number of words tried: it adds over an append, and for the order it is the place of the leader that comes last. Assumes
-- nothing.
use mathlib.Core.Path.{◌≡◌, refl, sym, ap, ap₂, ◌∙◌}
use mathlib.Core.Logic.{◌≢◌, ◌⊎◌, inl, inr}
use mathlib.Core.List.{List, [], ◌∷◌, ◌++◌}
use mathlib.Core.Bool.{Bool, true, false, cond}
use Prim.Native.Nat.{ℕ, zero, suc, ◌+◌, ◌-◌, ◌^◌, ◌≤◌, ◌<◌}
use native.Mathlib.Nat.{zero-add}
use native.Mathlib.Decide.{ℕ_discrete}
use native.Mathlib.Omega.{arith}
use lib.Dec.{eqb}
use lib.ListN.{length, get_or, set, take, length-take, length-replicate, get_or-replicate}
use lib.Seq.{get_or-set_same, get_or-set_other, get_or-take}
use lib.Pow.{pow_pos}
use borrow.Author.Tests.{eq-eqb, ne_eqb}
use Rattle.coding.specs.Lists.{first}
use Rattle.coding.specs.Matrix.{Inside}
use Rattle.coding.specs.Check.{frees}
use Rattle.coding.specs.Leader.{syndrome_of, no_leader, leader_of}
use Rattle.coding.specs.Order.{words, order, fill, fills, blanks}
use Rattle.coding.specs.Tries.{blank_count, tried, Before, LastLeader}
use Rattle.coding.proofs.SearchLaws.{first_is}
use Rattle.coding.proofs.CountLaws.{count_none}
use Rattle.coding.proofs.LeaderLaws.{leader_light, syndrome_of-lt}
use Rattle.coding.proofs.BuildLaws.{All, light_word, order-words, built, fill_blank, fill_held, fill-length}
use Rattle.coding.proofs.BuildLaws.{fills_done, fills-length, blank_set, blank_all}
use Rattle.coding.proofs.OrderedLaws.{order_is}

-- ---- over any words

-- none where no entry is blank
pub tried_done : (syn : ℕ → ℕ) (ws L : List ℕ) → blank_count L ≡ 0 → tried syn L ws ≡ 0
tried_done syn [] L z = refl
tried_done syn (w ∷ ws) L z = ap (λ (b : Bool). cond b 0 (suc (tried syn (fill syn L w) ws))) (eq-eqb (blank_count L) 0 z)

pub tried_next : (syn : ℕ → ℕ) (w : ℕ) (ws L : List ℕ) → 1 ≤ blank_count L → tried syn L (w ∷ ws) ≡ suc (tried syn (fill syn L w) ws)
tried_next syn w ws L h =
    ap (λ (b : Bool). cond b 0 (suc (tried syn (fill syn L w) ws))) (ne_eqb (blank_count L) 0 (λ e. omega arith))

pub tried-append : (syn : ℕ → ℕ) (L xs ys : List ℕ) → tried syn L (xs ++ ys) ≡ tried syn L xs + tried syn (fills syn L xs) ys
tried-append syn L [] ys = sym (zero-add (tried syn L ys))
tried-append syn L (x ∷ xs) ys = go (ℕ_discrete (blank_count L) 0) (tried-append syn (fill syn L x) xs ys)
  where
    go : Dec (blank_count L ≡ 0) → tried syn (fill syn L x) (xs ++ ys) ≡ tried syn (fill syn L x) xs + tried syn (fills syn L (x ∷ xs)) ys
        → tried syn L (x ∷ xs ++ ys) ≡ tried syn L (x ∷ xs) + tried syn (fills syn L (x ∷ xs)) ys
    go (yes z) e =
        tried_done syn (x ∷ xs ++ ys) L z
        ∙ sym (ap₂ ◌+◌ (tried_done syn (x ∷ xs) L z) (ap (λ (l : List ℕ). tried syn l ys) (fills_done syn (x ∷ xs) L z) ∙ tried_done syn ys L z))
    go (no k) e =
        omega (arith, tried_next syn x (xs ++ ys) L (omega arith), tried_next syn x xs L (omega arith), e)

pub tried-le : (syn : ℕ → ℕ) (ws L : List ℕ) → tried syn L ws ≤ length ws
tried-le syn [] L = omega arith
tried-le syn (w ∷ ws) L = go (eqb (blank_count L) 0) (tried-le syn ws (fill syn L w))
  where
    go : (b : Bool) → tried syn (fill syn L w) ws ≤ length ws → cond b 0 (suc (tried syn (fill syn L w) ws)) ≤ length (w ∷ ws)
    go true h = omega arith
    go false h = omega arith

-- syndromes that agree on the words
pub tried_same : (syn syn' : ℕ → ℕ) (ws L : List ℕ) → All (λ w. syn w ≡ syn' w) ws → tried syn L ws ≡ tried syn' L ws
tried_same syn syn' [] L f = refl
tried_same syn syn' (w ∷ ws) L (e, f) =
    ap (λ (s : ℕ). cond (eqb (blank_count L) 0) 0 (suc (tried syn (cond (eqb (get_or L s 0) no_leader) (set L s w) L) ws))) e
    ∙ ap (λ (x : ℕ). cond (eqb (blank_count L) 0) 0 (suc x)) (tried_same syn syn' ws (fill syn' L w) f)

-- the zero word is tried where an entry is blank
pub tried-zero : (syn : ℕ → ℕ) (L : List ℕ) (n t : ℕ) → 1 ≤ blank_count L → 1 ≤ tried syn L (order n (suc t))
tried-zero syn L n zero h = omega (arith, tried_next syn 0 [] L h)
tried-zero syn L n (suc t) h = omega (arith, tried-append syn L (order n (suc t)) (words n (suc t)), tried-zero syn L n t h)

-- ---- the word that fills the last blank entry

-- it is word i: the words up to it fill all that the words fill, those before it leave one entry blank, and it takes that entry
pub record Ends (syn : ℕ → ℕ) (L ws : List ℕ) (i : ℕ) : Type 0 where
  pub number : tried syn L ws ≡ suc i
  pub below : i < length ws
  pub enough : fills syn L (take (suc i) ws) ≡ fills syn L ws
  pub needed : blank_count (fills syn L (take i ws)) ≡ 1
  pub takes : get_or (fills syn L ws) (syn (get_or ws i 0)) 0 ≡ get_or ws i 0

-- a word that leaves no blank entry has taken the only one
module _ (syn : ℕ → ℕ) (L : List ℕ) (w : ℕ) (ne : w ≢ no_leader) (h : syn w < length L) (some : 1 ≤ blank_count L) (z : blank_count (fill syn L w) ≡ 0) where
  was_blank : get_or L (syn w) 0 ≡ no_leader
  was_blank = go (ℕ_discrete (get_or L (syn w) 0) no_leader)
    where
      go : Dec (get_or L (syn w) 0 ≡ no_leader) → get_or L (syn w) 0 ≡ no_leader
      go (yes e) = e
      go (no k) = absurd (omega (arith, ap blank_count (fill_held syn L w k)))

  was_one : blank_count L ≡ 1
  was_one = omega (arith, ap blank_count (fill_blank syn L w was_blank), blank_set L (syn w) w h was_blank ne)

  taken : get_or (fill syn L w) (syn w) 0 ≡ w
  taken = ap (λ (l : List ℕ). get_or l (syn w) 0) (fill_blank syn L w was_blank) ∙ get_or-set_same L (syn w) w 0 h

pub last_tried : (syn : ℕ → ℕ) (ws L : List ℕ) → All (λ w. w ≢ no_leader) ws → ((w : ℕ) → syn w < length L)
    → 1 ≤ blank_count L → blank_count (fills syn L ws) ≡ 0 → (i : ℕ) × Ends syn L ws i
last_tried syn [] L f h some z = absurd (omega arith)
last_tried syn (w ∷ ws) L (ne, f) h some z =
    go (ℕ_discrete (blank_count (fill syn L w)) 0) (λ k. last_tried syn ws (fill syn L w) f (λ v. rw (fill-length syn L w) (h v)) k z)
  where
    go : Dec (blank_count (fill syn L w) ≡ 0) → (1 ≤ blank_count (fill syn L w) → (i : ℕ) × Ends syn (fill syn L w) ws i)
        → (i : ℕ) × Ends syn L (w ∷ ws) i
    go (yes e) more = (
      0,
      record {
        number = tried_next syn w ws L some ∙ ap suc (tried_done syn ws (fill syn L w) e);
        below = omega arith;
        enough = sym (fills_done syn ws (fill syn L w) e);
        needed = was_one syn L w ne (h w) some e;
        takes = ap (λ (l : List ℕ). get_or l (syn w) 0) (fills_done syn ws (fill syn L w) e) ∙ taken syn L w ne (h w) some e;
      },
    )
    go (no k) more =
        let (i, E) = more (omega arith) in (
          suc i,
          record {
            number = tried_next syn w ws L some ∙ ap suc E.number;
            below = omega (arith, E.below);
            enough = E.enough;
            needed = E.needed;
            takes = E.takes;
          },
        )

-- an entry that was blank and is not holds one of the words
fills_from : (syn : ℕ → ℕ) (ws L : List ℕ) (s : ℕ) → s < length L
    → (get_or (fills syn L ws) s 0 ≡ get_or L s 0) ⊎ ((j : ℕ) × (j < length ws) × (get_or ws j 0 ≡ get_or (fills syn L ws) s 0))
fills_from syn [] L s h = inl refl
fills_from syn (w ∷ ws) L s h =
    go (fills_from syn ws (fill syn L w) s (rw (fill-length syn L w) h)) (eqb (get_or L (syn w) 0) no_leader) refl (ℕ_discrete s (syn w))
  where
    F : List ℕ
    F = fills syn (fill syn L w) ws

    go : (get_or F s 0 ≡ get_or (fill syn L w) s 0) ⊎ ((j : ℕ) × (j < length ws) × (get_or ws j 0 ≡ get_or F s 0))
        → (b : Bool) → eqb (get_or L (syn w) 0) no_leader ≡ b → Dec (s ≡ syn w)
        → (get_or F s 0 ≡ get_or L s 0) ⊎ ((j : ℕ) × (j < length (w ∷ ws)) × (get_or (w ∷ ws) j 0 ≡ get_or F s 0))
    go (inr (j, l, e)) b q d = inr (suc j, omega arith, e)
    go (inl e) false q d = inl (e ∙ ap (λ (b : Bool). get_or (cond b (set L (syn w) w) L) s 0) q)
    go (inl e) true q (no k) = inl (e ∙ ap (λ (b : Bool). get_or (cond b (set L (syn w) w) L) s 0) q ∙ get_or-set_other L (syn w) s w 0 k)
    go (inl e) true q (yes d) =
        inr (
          0,
          omega arith,
          sym (e ∙ ap (λ (b : Bool). get_or (cond b (set L (syn w) w) L) s 0) q
              ∙ ap (λ (x : ℕ). get_or (set L (syn w) w) x 0) d ∙ get_or-set_same L (syn w) w 0 (rw d at h)),
        )

-- ---- the request: of a matrix's leaders it is the one that comes last, and their number is its place

module _ (n : ℕ) (rs : List ℕ) (fits : Inside n rs) (small : length (frees n rs) < 32) where
  abbrev c : ℕ
  c = length (frees n rs)

  abbrev ws : List ℕ
  ws = order n (suc c)

  abbrev syn : ℕ → ℕ
  syn = syndrome_of n rs

  abbrev list : List ℕ
  list = fills syn (blanks (2 ^ c)) ws

  leader : (s : ℕ) → s < 2 ^ c → leader_of n rs s ≢ no_leader
  leader s h = light_word (leader_of n rs s) (omega (arith, leader_light n rs fits s h))

  long : length (blanks (2 ^ c)) ≡ 2 ^ c
  long = length-replicate (2 ^ c) no_leader

  none_blank : blank_count list ≡ 0
  none_blank = count_none (λ s. eqb (get_or list s 0) no_leader) (length list)
      (λ s h.
      let l : s < 2 ^ c = rw (fills-length syn ws (blanks (2 ^ c)), long) at h in
      ne_eqb (get_or list s 0) no_leader (λ e. leader s l (sym (built n rs fits small s l) ∙ e)))

  ended : (i : ℕ) × Ends syn (blanks (2 ^ c)) ws i
  ended =
      last_tried syn ws (blanks (2 ^ c)) (order-words n (suc c) small)
      (λ w. rw long (syndrome_of-lt n rs fits w)) (rw (blank_all (2 ^ c)) (pow_pos c)) none_blank

  pub last_leader : (last : ℕ) × LastLeader n rs c last (tried syn (blanks (2 ^ c)) ws)
  last_leader =
      let (i, E) = ended in (
        get_or ws i 0,
        record {
          leads = (syn (get_or ws i 0), syndrome_of-lt n rs fits (get_or ws i 0), sym (built n rs fits small _ (syndrome_of-lt n rs fits (get_or ws i 0))) ∙ E.takes);
          latest = latest i E;
          ordered = order_is n (suc c);
          stands = E.number ∙ ap suc (sym (at i E.below));
          there = ap (λ (k : ℕ). get_or ws k 0) (less i E);
          enough = λ s h. ap (λ (k : ℕ). get_or (fills syn (blanks (2 ^ c)) (take k ws)) s 0) E.number
              ∙ ap (λ (l : List ℕ). get_or l s 0) E.enough ∙ built n rs fits small s h;
          needed = ap (λ (k : ℕ). blank_count (fills syn (blanks (2 ^ c)) (take k ws))) (less i E) ∙ E.needed;
        },
      )
    where
      less : (i : ℕ) → Ends syn (blanks (2 ^ c)) ws i → tried syn (blanks (2 ^ c)) ws - 1 ≡ i
      less i E = omega (arith, E.number)

      -- a word's first index is its only one
      at : (i : ℕ) → i < length ws → first (λ j. eqb (get_or ws j 0) (get_or ws i 0)) (length ws) ≡ i
      at i h =
          first_is (λ j. eqb (get_or ws j 0) (get_or ws i 0)) (length ws) i (omega arith)
          (λ j l. ne_eqb (get_or ws j 0) (get_or ws i 0) (λ e. absurd (omega (arith, (order_is n (suc c)).different j i (omega arith) h e))))
          (λ _. eq-eqb (get_or ws i 0) (get_or ws i 0) refl)

      latest : (i : ℕ) → Ends syn (blanks (2 ^ c)) ws i → (s : ℕ) → s < 2 ^ c
          → (leader_of n rs s ≡ get_or ws i 0) ⊎ Before (leader_of n rs s) (get_or ws i 0)
      latest i E s h = go (fills_from syn (take (suc i) ws) (blanks (2 ^ c)) s (rw long h))
        where
          is : get_or (fills syn (blanks (2 ^ c)) (take (suc i) ws)) s 0 ≡ leader_of n rs s
          is = ap (λ (l : List ℕ). get_or l s 0) E.enough ∙ built n rs fits small s h

          pick : (j : ℕ) → j < suc i → get_or ws j 0 ≡ leader_of n rs s → Dec (j ≡ i)
              → (leader_of n rs s ≡ get_or ws i 0) ⊎ Before (leader_of n rs s) (get_or ws i 0)
          pick j l e (yes q) = inl (sym e ∙ ap (λ (x : ℕ). get_or ws x 0) q)
          pick j l e (no k) = inr (rw e at ((order_is n (suc c)).rising j i (omega arith) E.below))

          go : (get_or (fills syn (blanks (2 ^ c)) (take (suc i) ws)) s 0 ≡ get_or (blanks (2 ^ c)) s 0)
              ⊎ ((j : ℕ) × (j < length (take (suc i) ws)) × (get_or (take (suc i) ws) j 0 ≡ get_or (fills syn (blanks (2 ^ c)) (take (suc i) ws)) s 0))
              → (leader_of n rs s ≡ get_or ws i 0) ⊎ Before (leader_of n rs s) (get_or ws i 0)
          go (inl e) = absurd (leader s h (sym is ∙ e ∙ get_or-replicate (2 ^ c) s no_leader 0 h))
          go (inr (j, l, e)) =
              let b : j < suc i = omega (arith, length-take (suc i) ws) in
              pick j b (sym (get_or-take (suc i) ws j 0 b) ∙ e ∙ is) (ℕ_discrete j i)
