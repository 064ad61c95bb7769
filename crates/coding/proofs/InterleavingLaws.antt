-- Laws of interleaving: place j of word i is bit number L * j + i, sorting back undoes it and is undone by it, and of a burst of L * r places
-- no word has more than r. Assumes nothing.
use mathlib.Core.Path.{◌≡◌, sym, ap, ap₂, ◌∙◌}
use mathlib.Core.Logic.{◌⊎◌, inl, inr}
use mathlib.Core.List.{List}
use Prim.Native.Nat.{ℕ, zero, suc, ◌+◌, ◌-◌, ◌*◌, ◌/◌, ◌%◌, ◌^◌, ◌≤◌, ◌<◌, suc-le-suc}
use native.Mathlib.Nat.{mod-lt, mul-add-div, mul-add-mod_self_left, div-eq_of_lt, mod-eq_of_lt, div-add-mod, div-lt_iff_lt-mul}
use native.Mathlib.Nat.{le-div_iff_mul-le, lt-div-mul-add, mul-le-mul_right, mul_comm, add-mul}
use native.Mathlib.Decide.{dec_le}
use native.Mathlib.Omega.{arith}
use lib.ListN.{length, get_or, take, get_or-eq_default}
use lib.Count.{ones_step}
use lib.Seq.{ext_get_or, get_or-take, length-take-le}
use lib.Bits.{xor_lt}
use Rattle.coding.specs.Lists.{tabulate}
use Rattle.coding.specs.Word.{◌⊕◌, bit, weight, distance}
use Rattle.coding.specs.Matrix.{Inside}
use Rattle.coding.specs.Radius.{RadiusRules}
use Rattle.coding.specs.Interleaving.{sent_bit, interleaved, sorted_word, sorted_words, Burst, SentWithBurst, BurstRule}
use Rattle.coding.proofs.ListLaws.{length-tabulate, get_d_tabulate}
use Rattle.coding.proofs.WordLaws.{bit-lt, bit-half, bit_xor, half_lt, ext}
use Rattle.coding.proofs.WeightLaws.{weight-zero}
use Rattle.coding.proofs.CheckLaws.{places-lt, places-bit}

-- ---- bit numbers: b is L * (b / L) + b % L

module _ (L : ℕ) (pos : 0 < L) where
  pub at_div : (i j : ℕ) → i < L → (L * j + i) / L ≡ j
  at_div i j h = mul-add-div pos j i ∙ omega (arith, div-eq_of_lt h)

  pub at_mod : (i j : ℕ) → i < L → (L * j + i) % L ≡ i
  at_mod i j h = mul-add-mod_self_left L j i ∙ mod-eq_of_lt h

  place-below : (n b : ℕ) → b < L * n → b / L < n
  place-below n b h = (div-lt_iff_lt-mul {x = b} {y = n} pos).1 (rw (mul_comm n L) h)

  pub bit_below : (n i j : ℕ) → i < L → j < n → L * j + i < L * n
  bit_below n i j h k =
      let e : suc j * L ≤ n * L = mul-le-mul_right L k in
      omega (arith, e, add-mul 1 j L, mul_comm j L, mul_comm n L)

-- ---- sending

module _ (n : ℕ) (words : List ℕ) where
  interleaved_long : length (interleaved n words) ≡ length words * n
  interleaved_long = length-tabulate _ (length words * n)

  pub sent-bit : (i j : ℕ) → i < length words → j < n → get_or (interleaved n words) (length words * j + i) 0 ≡ bit (get_or words i 0) j
  sent-bit i j h k =
      let pos : 0 < length words = omega arith in
      get_d_tabulate _ (length words * n) _ (bit_below (length words) pos n i j h k)
      ∙ ap₂ (λ (x y : ℕ). bit (get_or words x 0) y) (at_mod (length words) pos i j h) (at_div (length words) pos i j h)

  pub sent_bits : Inside 1 (interleaved n words)
  sent_bits b h =
      rw (get_d_tabulate (sent_bit words) (length words * n) b (rw interleaved_long at h))
      (bit-lt (get_or words (b % length words) 0) (b / length words))

-- ---- sorting back

-- past the end the default is a bit too
pub bit-digit : (bits : List ℕ) → Inside 1 bits → (b : ℕ) → get_or bits b 0 < 2
bit-digit bits f b = go (dec_le (length bits) b)
  where
    go : Dec (length bits ≤ b) → get_or bits b 0 < 2
    go (no h) = f b (omega arith)
    go (yes h) = rw (get_or-eq_default bits 0 {n = b} h) (omega arith)

module _ (n L : ℕ) (bits : List ℕ) (f : Inside 1 bits) where
  pub sorted-lt : (i : ℕ) → sorted_word n L bits i < 2 ^ n
  sorted-lt i = rw (length-tabulate (λ j. j) n) at (places-lt (λ j. get_or bits (L * j + i) 0) (λ j. bit-digit bits f (L * j + i)) (tabulate (λ j. j) n))

  pub sorted-bit : (i j : ℕ) → j < n → bit (sorted_word n L bits i) j ≡ get_or bits (L * j + i) 0
  sorted-bit i j h =
      places-bit (λ j. get_or bits (L * j + i) 0) (λ j. bit-digit bits f (L * j + i)) (tabulate (λ j. j) n) j (rw (length-tabulate (λ j. j) n) h)
      ∙ ap (λ (x : ℕ). get_or bits (L * x + i) 0) (get_d_tabulate (λ j. j) n j h)

pub sorted_at : (n L : ℕ) (bits : List ℕ) (i : ℕ) → i < L → get_or (sorted_words n L bits) i 0 ≡ sorted_word n L bits i
sorted_at n L bits i h = get_d_tabulate (sorted_word n L bits) L i h

pub sorted_long : (n L : ℕ) (bits : List ℕ) → length (sorted_words n L bits) ≡ L
sorted_long n L bits = length-tabulate (sorted_word n L bits) L

pub sorted-inside : (n L : ℕ) (bits : List ℕ) → Inside 1 bits → Inside n (sorted_words n L bits)
sorted-inside n L bits f i h = rw (sorted_at n L bits i (rw (sorted_long n L bits) at h)) (sorted-lt n L bits f i)

-- ---- each undoes the other

pub sorted-sent : (n : ℕ) (words : List ℕ) → Inside n words → sorted_words n (length words) (interleaved n words) ≡ words
sorted-sent n words f =
    ext_get_or 0 _ _ (sorted_long n (length words) (interleaved n words))
    (λ i h. let l : i < length words = rw (sorted_long n (length words) (interleaved n words)) at h in
    sorted_at n (length words) (interleaved n words) i l
    ∙ ext n (sorted-lt n (length words) (interleaved n words) (sent_bits n words) i) (f i l)
    (λ j k. sorted-bit n (length words) (interleaved n words) (sent_bits n words) i j k ∙ sent-bit n words i j l k))

pub sent-sorted : (n L : ℕ) (bits : List ℕ) → 0 < L → Inside 1 bits → length bits ≡ L * n → interleaved n (sorted_words n L bits) ≡ bits
sent-sorted n L bits pos f e = ext_get_or 0 _ _ (long ∙ sym e) (λ b h. entry b (rw long at h))
  where
    many : length (sorted_words n L bits) ≡ L
    many = sorted_long n L bits

    long : length (interleaved n (sorted_words n L bits)) ≡ L * n
    long = interleaved_long n (sorted_words n L bits) ∙ ap (λ (x : ℕ). x * n) many

    entry : (b : ℕ) → b < L * n → get_or (interleaved n (sorted_words n L bits)) b 0 ≡ get_or bits b 0
    entry b h =
        get_d_tabulate (sent_bit (sorted_words n L bits)) (length (sorted_words n L bits) * n) b (rw many h)
        ∙ ap (λ (x : ℕ). bit (get_or (sorted_words n L bits) (b % x) 0) (b / x)) many
        ∙ ap (λ (x : ℕ). bit x (b / L)) (sorted_at n L bits (b % L) (mod-lt b pos))
        ∙ sorted-bit n L bits f (b % L) (b / L) (place-below L pos n b h)
        ∙ ap (λ (x : ℕ). get_or bits x 0) (div-add-mod b L)

-- ---- a word whose ones stand in r consecutive places weighs at most r

window_weight : (n s r x : ℕ) → x < 2 ^ n → ((j : ℕ) → j < n → (j < s) ⊎ (s + r ≤ j) → bit x j ≡ 0) → weight x ≤ r
window_weight zero s r x h f = let e : x ≡ 0 = omega arith in rw (e, weight-zero) (omega arith)
window_weight (suc n) (suc s) r x h f =
    let w = window_weight n s r (x / 2) (half_lt n h) (λ j l o. sym (bit-half x j) ∙ f (suc j) (suc-le-suc l) (later j o)) in
    omega (arith, ones_step x, f 0 (omega arith) (inl (omega arith)), w)
  where
    later : (j : ℕ) → (j < s) ⊎ (s + r ≤ j) → (suc j < suc s) ⊎ (suc s + r ≤ suc j)
    later j (inl l) = inl (omega arith)
    later j (inr l) = inr (omega arith)
window_weight (suc n) zero zero x h f =
    let w = window_weight n zero zero (x / 2) (half_lt n h) (λ j l o. sym (bit-half x j) ∙ f (suc j) (suc-le-suc l) (inr (omega arith))) in
    omega (arith, ones_step x, f 0 (omega arith) (inr (omega arith)), w)
window_weight (suc n) zero (suc r) x h f =
    let w = window_weight n zero r (x / 2) (half_lt n h) (λ j l o. sym (bit-half x j) ∙ f (suc j) (suc-le-suc l) (later j o)) in
    omega (arith, ones_step x, w)
  where
    later : (j : ℕ) → (j < zero) ⊎ (zero + r ≤ j) → (suc j < zero) ⊎ (zero + suc r ≤ suc j)
    later j (inl l) = absurd (omega arith)
    later j (inr l) = inr (omega arith)

-- ---- bursts

-- of L * r bits from a on, those of word i are r consecutive places of it, from the first that travels at a or later
module _ (L : ℕ) (pos : 0 < L) (a i : ℕ) (below : i < L) where
  abbrev first : ℕ
  first = (a + (L - 1 - i)) / L

  before-burst : (j : ℕ) → j < first → L * j + i < a
  before-burst j h =
      let e : suc j * L ≤ a + (L - 1 - i) = (le-div_iff_mul-le {x = suc j} {y = a + (L - 1 - i)} pos).0 h in
      omega (arith, e, add-mul 1 j L, mul_comm j L)

  after_burst : (r j : ℕ) → first + r ≤ j → a + L * r ≤ L * j + i
  after_burst r j h =
      let e : a + (L - 1 - i) < first * L + L = lt-div-mul-add {a = a + (L - 1 - i)} pos in
      let k : (first + r) * L ≤ j * L = mul-le-mul_right L h in
      omega (arith, e, k, add-mul first r L, mul_comm j L, mul_comm r L)

-- so that word i differs from the one sent in at most r places
burst_near : (n L r a : ℕ) (sent bits : List ℕ) → 0 < L → length sent ≡ L → Inside n sent → Inside 1 bits → Burst a (L * r) (interleaved n sent) bits
    → (i : ℕ) → i < L → distance (sorted_word n L bits i) (get_or sent i 0) ≤ r
burst_near n L r a sent bits pos long f g burst i h =
    window_weight n (first L pos a i h) r (sorted_word n L bits i ⊕ get_or sent i 0)
    (xor_lt n _ _ (sorted-lt n L bits g i) (f i (rw long h))) outside
  where
    same : (j : ℕ) → j < n → (L * j + i < a) ⊎ (a + L * r ≤ L * j + i) → bit (sorted_word n L bits i) j ≡ bit (get_or sent i 0) j
    same j k o =
        sorted-bit n L bits g i j k
        ∙ burst (L * j + i) (rw (interleaved_long n sent, long) (bit_below L pos n i j h k)) o
        ∙ ap (λ (x : ℕ). get_or (interleaved n sent) (x * j + i) 0) (sym long) ∙ sent-bit n sent i j (rw long h) k

    where_is : (j : ℕ) → (j < first L pos a i h) ⊎ (first L pos a i h + r ≤ j) → (L * j + i < a) ⊎ (a + L * r ≤ L * j + i)
    where_is j (inl l) = inl (before-burst L pos a i h j l)
    where_is j (inr l) = inr (after_burst L pos a i h r j l)

    outside : (j : ℕ) → j < n → (j < first L pos a i h) ⊎ (first L pos a i h + r ≤ j) → bit (sorted_word n L bits i ⊕ get_or sent i 0) j ≡ 0
    outside j k o =
        bit_xor (sorted_word n L bits i) (get_or sent i 0) j
        ∙ ap (λ (x : ℕ). (x + bit (get_or sent i 0) j) % 2) (same j k (where_is j o))
        ∙ omega arith

-- and what was sent comes back, for any set of codewords of n places of which the radius rules hold
pub burst_rule : (C : ℕ → Type 0) (n L D r : ℕ) (bits codewords counts : List ℕ) (Far : ℕ → Type 0)
    → 0 < L → ((w : ℕ) → C w → w < 2 ^ n) → Inside 1 bits → L ≤ length codewords
    → ((i : ℕ) → i < L → RadiusRules ℕ C distance D r (sorted_word n L bits i) (get_or codewords i 0) (get_or counts i 0) (Far i))
    → BurstRule C n L r bits codewords counts
burst_rule C n L D r bits codewords counts Far pos inside g room rules = record {
  mended = λ sent a S. ext_get_or 0 _ _ (taken ∙ sym S.long)
      (λ i h. let l : i < L = rw taken at h in get_or-take L codewords i 0 l ∙ (back sent a S i l).1);
  counted = λ sent a S i h.
      let (near, e) = back sent a S i h in
      ((rules i h).counted near ∙ ap (distance (sorted_word n L bits i)) e, (rules i h).within near);
}
  where
    taken : length (take L codewords) ≡ L
    taken = length-take-le L codewords room

    back : (sent : List ℕ) (a : ℕ) → SentWithBurst C n L (L * r) a sent bits → (i : ℕ) → i < L → (Far i → ⊥) × (get_or codewords i 0 ≡ get_or sent i 0)
    back sent a S i h =
        (rules i h).sent_back (get_or sent i 0) (S.codewords i h)
        (burst_near n L r a sent bits pos S.long (λ j k. inside _ (S.codewords j (rw S.long at k))) g S.burst i h)
