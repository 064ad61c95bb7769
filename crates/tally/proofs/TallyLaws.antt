-- Laws of the tally: one word more, what the numbers add to, and how large they are.
use mathlib.Core.Path.{◌≡◌, refl, sym, ap, ap₂, ◌∙◌}
use mathlib.Core.Bool.{Bool, true, false}
use mathlib.Core.List.{List, [], ◌∷◌, map}
use Prim.Native.Nat.{ℕ, zero, suc, ◌+◌, ◌-◌, ◌*◌, ◌≤◌, ◌<◌}
use native.Mathlib.Nat.{le_of_suc-le-suc}
use native.Mathlib.Numerals.{add-one}
use native.Mathlib.Decide.{ℕ_discrete}
use native.Mathlib.Omega.{arith}
use borrow.Author.Tests.{eq-eqb, ne_eqb}
use mir.Val.{bool_byte}
use lib.Dec.{eqb}
use lib.ListN.{length, get_or, take, length-map}
use lib.Seq.{take_all, length-take-le}
use Rattle.coding.specs.Lists.{total}
use Rattle.outcomes.specs.Outcome.{count_in}
use Rattle.outcomes.specs.declared.ending.Outcome.{Outcome}
use Rattle.outcomes.specs.declared.ending.Outcome.TheVariants.{Clean, Mended, Far}
use Rattle.tally.specs.Tally.{adds, tally_of}
use Rattle.tally.specs.Slots.{slot_outcome, slot_tally}

-- what one word adds to each number
abbrev clean_in : Outcome ℕ → ℕ
clean_in o = (adds o).clean

abbrev mended_in : Outcome ℕ → ℕ
mended_in o = (adds o).mended

abbrev far_in : Outcome ℕ → ℕ
far_in o = (adds o).far

abbrev places_in : Outcome ℕ → ℕ
places_in o = (adds o).places

-- every word is counted once: the numbers of clean, mended and far words add to the number of words
totals_add : (os : List (Outcome ℕ)) → total (map clean_in os) + total (map mended_in os) + total (map far_in os) ≡ length os
totals_add [] = refl
totals_add (Clean c ∷ os) = omega (arith, totals_add os)
totals_add (Mended c d ∷ os) = omega (arith, totals_add os)
totals_add (Far ∷ os) = omega (arith, totals_add os)

pub tally_adds : (os : List (Outcome ℕ)) → let t = tally_of os in t.clean + t.mended + t.far ≡ length os
unfolding tally_of
tally_adds os = totals_add os

-- ---- the codewords do not count

-- an outcome without its codeword, and what says nothing of the codeword
abbrev pub bare : Outcome ℕ → Outcome ℕ
bare (Clean c) = Clean 0
bare (Mended c d) = Mended 0 d
bare Far = Far

pub bare_says : {A : Type 0} (f : Outcome ℕ → A) → ((c : ℕ) → f (Clean 0) ≡ f (Clean c)) → ((c d : ℕ) → f (Mended 0 d) ≡ f (Mended c d))
    → (o : Outcome ℕ) → f (bare o) ≡ f o
bare_says f clean mended (Clean c) = clean c
bare_says f clean mended (Mended c d) = mended c d
bare_says f clean mended Far = refl

bare-total : (f : Outcome ℕ → ℕ) → ((o : Outcome ℕ) → f (bare o) ≡ f o) → (os : List (Outcome ℕ)) → total (map f (map bare os)) ≡ total (map f os)
bare-total f same [] = refl
bare-total f same (o ∷ os) = ap₂ ◌+◌ (same o) (bare-total f same os)

-- whatever is told of each word: if its outcome can be read from it, but for the codeword, so can the tally
pub tally_read : {A : Type 0} (outcome : ℕ → Outcome ℕ) (told : ℕ → A) (read : A → Outcome ℕ) → ((w : ℕ) → read (told w) ≡ bare (outcome w))
    → (words : List ℕ) → tally_of (map read (map told words)) ≡ tally_of (map outcome words)
unfolding tally_of
tally_read {A} outcome told read same words =
    let sum : (f : Outcome ℕ → ℕ) → ((c : ℕ) → f (Clean 0) ≡ f (Clean c)) → ((c d : ℕ) → f (Mended 0 d) ≡ f (Mended c d))
    → total (map f (map bare (map outcome words))) ≡ total (map f (map outcome words))
    = λ f clean mended. bare-total f (bare_says f clean mended) (map outcome words) in
    rw (
      reads words,
      sum clean_in (λ c. refl) (λ c d. refl),
      sum mended_in (λ c. refl) (λ c d. refl),
      sum far_in (λ c. refl) (λ c d. refl),
      sum places_in (λ c. refl) (λ c d. refl),
    ) refl
  where
    reads : (ws : List ℕ) → map read (map told ws) ≡ map bare (map outcome ws)
    reads [] = refl
    reads (w ∷ ws) = ap₂ ◌∷◌ (same w) (reads ws)

-- ---- slots of the counts

-- the count tells how the word ended: that of a mended word is neither 0 nor 255
abbrev pub Tells : Outcome ℕ → Type 0
Tells (Clean c) = Unit {0}
Tells (Mended c d) = (d ≡ 0 → ⊥) × (d ≡ 255 → ⊥)
Tells Far = Unit {0}

pub slot_says : (o : Outcome ℕ) → Tells o → slot_outcome (count_in o) ≡ bare o
slot_says (Clean c) t = refl
slot_says (Mended c d) t = rw (ne_eqb d 255 t.1, ne_eqb d 0 t.0) refl
slot_says Far t = refl

-- a test adds 1 or nothing
pub test-adds : (b : Bool) → bool_byte b ≤ 1
test-adds true = omega arith
test-adds false = omega arith

-- what the tests on a slot add
slot_tests : (count : ℕ) → (bool_byte (eqb count 0) ≡ clean_in (slot_outcome count)) × (bool_byte (eqb count 255) ≡ far_in (slot_outcome count))
slot_tests count = go (ℕ_discrete count 255) (ℕ_discrete count 0)
  where
    go : Dec (count ≡ 255) → Dec (count ≡ 0)
        → (bool_byte (eqb count 0) ≡ clean_in (slot_outcome count)) × (bool_byte (eqb count 255) ≡ far_in (slot_outcome count))
    go (yes e) (yes z) = absurd (omega arith)
    go (yes e) (no z) = rw (eq-eqb count 255 e, ne_eqb count 0 z) (refl, refl)
    go (no n) (yes z) = rw (ne_eqb count 255 n, eq-eqb count 0 z) (refl, refl)
    go (no n) (no z) = rw (ne_eqb count 255 n, ne_eqb count 0 z) (refl, refl)

-- a slot that is not 255 has its count
pub slot_number : {A : Type 0} (f : Outcome ℕ → A) (g : ℕ → A) → g 0 ≡ f (Clean 0) → ((d : ℕ) → g d ≡ f (Mended 0 d))
    → (count : ℕ) → (count ≡ 255 → ⊥) → g count ≡ f (slot_outcome count)
slot_number {A} f g clean mended count n = go (ℕ_discrete count 0)
  where
    go : Dec (count ≡ 0) → g count ≡ f (slot_outcome count)
    go (yes z) = rw (ne_eqb count 255 n, eq-eqb count 0 z) (ap g z ∙ clean)
    go (no z) = rw (ne_eqb count 255 n, ne_eqb count 0 z) (mended count)

-- its places are that count
pub slot_count : (count : ℕ) → (count ≡ 255 → ⊥) → count ≡ places_in (slot_outcome count)
slot_count count n = slot_number places_in (λ d. d) refl (λ d. refl) count n

slot_places : (count : ℕ) → places_in (slot_outcome count) ≤ count
slot_places count = go (ℕ_discrete count 255)
  where
    go : Dec (count ≡ 255) → places_in (slot_outcome count) ≤ count
    go (yes e) = rw (eq-eqb count 255 e) (omega arith)
    go (no n) = omega (arith, slot_count count n)

-- ---- a loop over the slots: the words of the first i are counted

-- the sum over the first i slots
abbrev sum_to : (Outcome ℕ → ℕ) → List ℕ → ℕ → ℕ
sum_to f counts i = total (map f (map slot_outcome (take i counts)))

sum_more : (f : Outcome ℕ → ℕ) (counts : List ℕ) (i : ℕ) → i < length counts
    → sum_to f counts (suc i) ≡ sum_to f counts i + f (slot_outcome (get_or counts i 0))
sum_more f [] i h = absurd (omega arith)
sum_more f (c ∷ counts) zero h = omega arith
sum_more f (c ∷ counts) (suc i) h = omega (arith, sum_more f counts i (le_of_suc-le-suc h))

-- a slot has at most 255 places
places_few : (counts : List ℕ) (i : ℕ) → ((j : ℕ) → get_or counts j 0 < 256) → sum_to places_in counts i ≤ 255 * i
places_few counts zero h = omega arith
places_few [] (suc i) h = omega arith
places_few (c ∷ counts) (suc i) h = omega (arith, slot_places c, h 0, places_few counts i (λ j. h (suc j)))

pub record Counting (counts : List ℕ) (i clean far places : ℕ) : Type 0 where
  pub within : i ≤ length counts
  pub cleans : clean ≡ sum_to clean_in counts i
  pub fars : far ≡ sum_to far_in counts i
  pub sum : places ≡ sum_to places_in counts i

module _ {counts : List ℕ} {i clean far places : ℕ} (C : Counting counts i clean far places) where
  pub counting_step : (more : ℕ) → i < length counts → more ≡ places_in (slot_outcome (get_or counts i 0))
      → Counting counts (i + 1) (clean + bool_byte (eqb (get_or counts i 0) 0)) (far + bool_byte (eqb (get_or counts i 0) 255)) (places + more)
  counting_step more h e =
      let c = get_or counts i 0 in
      rw add-one (record {
        within = h;
        cleans = ap₂ ◌+◌ C.cleans (slot_tests c).0 ∙ sym (sum_more clean_in counts i h);
        fars = ap₂ ◌+◌ C.fars (slot_tests c).1 ∙ sym (sum_more far_in counts i h);
        sum = ap₂ ◌+◌ C.sum e ∙ sym (sum_more places_in counts i h);
      })

  -- the clean and the far words are among the first i
  pub counting-words : clean + far ≤ i
  counting-words = omega (
    arith,
    totals_add (map slot_outcome (take i counts)),
    length-map (take i counts) slot_outcome,
    length-take-le i counts C.within,
    C.cleans,
    C.fars,
  )

  pub counting-places : ((j : ℕ) → get_or counts j 0 < 256) → places ≤ 255 * i
  counting-places b = omega (arith, C.sum, places_few counts i b)

  -- all words are counted, and those that are neither clean nor far are mended
  pub counting_end : length counts ≤ i
      → record { clean = clean; mended = length counts - clean - far; far = far; places = places } ≡ slot_tally counts
  unfolding tally_of
  counting_end h =
      let os = map slot_outcome counts in
      let all = take_all i counts h in
      let c : clean ≡ total (map clean_in os) = rw all at C.cleans in
      let f : far ≡ total (map far_in os) = rw all at C.fars in
      let p : places ≡ total (map places_in os) = rw all at C.sum in
      let m : length counts - clean - far ≡ total (map mended_in os) = omega (arith, totals_add os, length-map counts slot_outcome) in
      rw (m, c, f, p) refl
