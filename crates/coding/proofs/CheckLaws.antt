-- Laws of check rows and syndromes: a place of a sum of rows is a parity of the message, and syndromes are additive.
-- Assumes nothing.
use mathlib.Core.Path.{◌≡◌, refl, sym, ap, ap₂, ◌∙◌}
use mathlib.Core.Logic.{◌≢◌}
use mathlib.Core.List.{List, [], ◌∷◌, map}
use Prim.Native.Nat.{ℕ, zero, suc, ◌+◌, ◌*◌, ◌/◌, ◌%◌, ◌^◌, ◌<◌, ◌≤◌, ◌-◌, min, suc-le-suc}
use native.Mathlib.Nat.{le_refl, pow-suc, suc-ne-zero, suc_inj, add-zero, add-suc, suc-add, lt_of_lt_of_le, le_of_suc-le-suc}
use native.Mathlib.Omega.{arith}
use lib.ListN.{length, get_or, drop, length-drop}
use lib.Seq.{drop-cons}
use lib.Pow.{pow_mono}
use Rattle.coding.specs.Word.{◌⊕◌, bit, parity}
use Rattle.coding.specs.Matrix.{sel, encode}
use Rattle.coding.specs.Reduce.{rest, frees_from}
use Rattle.coding.specs.Check.{places, column, check, syndrome}
use Rattle.coding.proofs.WordLaws.{bit-lt, bit-half, bit_of_zero, bit_xor, halves_eq, xor-half, xor-digit}
use Rattle.coding.proofs.MachineLaws.{joined}
use Rattle.coding.proofs.WeightLaws.{parity-lt, parity-xor, parity-xor_r, parity-zero, parity-pow, parity_step}

-- ---- a place of a sum of rows is a parity of the message

pub bit-sel : (c r q : ℕ) → c < 2 → bit (sel c r) q ≡ min c (bit r q)
bit-sel zero r q h = bit_of_zero q ∙ omega arith
bit-sel (suc zero) r q h = omega (arith, bit-lt r q)
bit-sel (suc (suc c)) r q h = absurd (omega arith)

cons-half : (p s : ℕ) → p < 2 → (p + 2 * s) / 2 ≡ s
cons-half p s h = omega arith

cons-odd : (p s : ℕ) → p < 2 → (p + 2 * s) % 2 ≡ p
cons-odd p s h = omega arith

pub encode-place : (rs : List ℕ) (w q : ℕ) → bit (encode rs w) q ≡ parity w (column rs q)
encode-place [] w q = bit_of_zero q ∙ sym (parity-zero w)
encode-place (r ∷ rs) w q =
    bit_xor (sel (w % 2) r) (encode rs (w / 2)) q
    ∙ ap₂ (λ (x y : ℕ). (x + y) % 2) (bit-sel (w % 2) r q (omega arith)) (encode-place rs (w / 2) q)
    ∙ sym (parity_step w (bit r q + 2 * column rs q)
    ∙ ap₂ (λ (x y : ℕ). (min (w % 2) x + parity (w / 2) y) % 2) (cons-odd (bit r q) (column rs q) (bit-lt r q))
    (cons-half (bit r q) (column rs q) (bit-lt r q)))

-- a place of what is left is the parity by that place's check row
pub rest-place : (B : List ℕ) (w q : ℕ) → bit (rest B w) q ≡ parity w (check B q)
rest-place B w q =
    bit_xor w (encode B w) q ∙ ap₂ (λ (x y : ℕ). (x + y) % 2) (sym (parity-pow w q)) (encode-place B w q) ∙ sym (parity-xor_r w (2 ^ q) (column B q))

-- a column that is 1 in one row only
pub column_none : (rs : List ℕ) (q : ℕ) → ((i : ℕ) → i < length rs → bit (get_or rs i 0) q ≡ 0) → column rs q ≡ 0
column_none [] q f = refl
column_none (r ∷ rs) q f = omega (arith, f 0 (omega arith), column_none rs q (λ i h. f (suc i) (suc-le-suc h)))

pub column_unit : (rs : List ℕ) (p q : ℕ) → p < length rs → ((i : ℕ) → i < length rs → i ≢ p → bit (get_or rs i 0) q ≡ 0) → bit (get_or rs p 0) q ≡ 1
    → column rs q ≡ 2 ^ p
column_unit [] p q h f e = absurd (omega arith)
column_unit (r ∷ rs) zero q h f e = omega (arith, e, column_none rs q (λ i l. f (suc i) (suc-le-suc l) (suc-ne-zero i)))
column_unit (r ∷ rs) (suc p) q h f e =
    omega (arith, pow-suc 2 p, f 0 (omega arith) (omega arith), column_unit rs p q (omega arith) (λ i l ne. f (suc i) (suc-le-suc l) (λ k. ne (suc_inj k))) e)

pub sel-zero : (c : ℕ) → sel c 0 ≡ 0
sel-zero zero = refl
sel-zero (suc c) = refl

-- ---- syndromes are additive, and have a place for each check row

-- digits one after the other make a word of as many places
pub places-lt : (digit : ℕ → ℕ) → ((x : ℕ) → digit x < 2) → (l : List ℕ) → places digit l < 2 ^ length l
places-lt digit f [] = le_refl 1
places-lt digit f (x ∷ l) = omega (arith, places-lt digit f l, f x, pow-suc 2 (length l))

pub syndrome-lt : (hs : List ℕ) (w : ℕ) → syndrome hs w < 2 ^ length hs
syndrome-lt hs w = places-lt (parity w) (parity-lt w) hs

-- a sum of two words, by their lowest places and the rest
cons-xor : (p q s t : ℕ) → p < 2 → q < 2 → (p + 2 * s) ⊕ (q + 2 * t) ≡ (p + q) % 2 + 2 * (s ⊕ t)
cons-xor p q s t hp hq =
    halves_eq _ _
    (xor-half (p + 2 * s) (q + 2 * t) ∙ ap₂ ◌⊕◌ (cons-half p s hp) (cons-half q t hq) ∙ sym (cons-half ((p + q) % 2) (s ⊕ t) (omega arith)))
    (xor-digit (p + 2 * s) (q + 2 * t) ∙ ap₂ (λ (x y : ℕ). (x + y) % 2) (cons-odd p s hp) (cons-odd q t hq)
    ∙ sym (cons-odd ((p + q) % 2) (s ⊕ t) (omega arith)))

pub syndrome-xor : (hs : List ℕ) (a b : ℕ) → syndrome hs (a ⊕ b) ≡ syndrome hs a ⊕ syndrome hs b
syndrome-xor [] a b = refl
syndrome-xor (h ∷ hs) a b =
    ap₂ (λ (x y : ℕ). x + 2 * y) (parity-xor a b h) (syndrome-xor hs a b)
    ∙ sym (cons-xor (parity a h) (parity b h) (syndrome hs a) (syndrome hs b) (parity-lt a h) (parity-lt b h))

-- place j is the digit of entry j
pub places-bit : (digit : ℕ → ℕ) → ((x : ℕ) → digit x < 2) → (l : List ℕ) (j : ℕ) → j < length l → bit (places digit l) j ≡ digit (get_or l j 0)
places-bit digit f [] j h = absurd (omega arith)
places-bit digit f (x ∷ l) zero h = omega (arith, cons-odd (digit x) (places digit l) (f x))
places-bit digit f (x ∷ l) (suc j) h =
    bit-half (places digit (x ∷ l)) j ∙ ap (λ (y : ℕ). bit y j) (cons-half (digit x) (places digit l) (f x))
    ∙ places-bit digit f l j (le_of_suc-le-suc h)

-- a syndrome of 0 is a parity of 0 by each check row
pub syndrome-each : (f : ℕ → ℕ) (rs : List ℕ) (i w : ℕ) → syndrome (map f (frees_from i rs)) w ≡ 0 → (j : ℕ) → j < length rs → get_or rs j 0 ≡ 0
    → parity w (f (i + j)) ≡ 0
syndrome-each f [] i w e j h z = absurd (omega arith)
syndrome-each f (zero ∷ rs) i w e zero h z = rw add-zero (omega arith)
syndrome-each f (zero ∷ rs) i w e (suc j) h z = rw (add-suc i j, ← suc-add i j) (syndrome-each f rs (suc i) w (omega arith) j (omega arith) z)
syndrome-each f (suc r ∷ rs) i w e zero h z = absurd (omega arith)
syndrome-each f (suc r ∷ rs) i w e (suc j) h z = rw (add-suc i j, ← suc-add i j) (syndrome-each f rs (suc i) w e j (omega arith) z)

pub syndrome_none : (f : ℕ → ℕ) (rs : List ℕ) (i w : ℕ) → ((j : ℕ) → parity w (f j) ≡ 0) → syndrome (map f (frees_from i rs)) w ≡ 0
syndrome_none f [] i w h = refl
syndrome_none f (zero ∷ rs) i w h = omega (arith, h i, syndrome_none f rs (suc i) w h)
syndrome_none f (suc r ∷ rs) i w h = syndrome_none f rs (suc i) w h

-- ---- a loop over the entries, from the last to the first: the digit of the entry before j becomes the lowest

module _ (digit : ℕ → ℕ) (l : List ℕ) (j : ℕ) (h : 0 < j) (k : j ≤ length l) where
  places_back : places digit (drop j l) * 2 + digit (get_or l (j - 1) 0) ≡ places digit (drop (j - 1) l)
  places_back = go j h k
    where
      less : (i : ℕ) → suc i - 1 ≡ i
      less i = omega arith

      go : (j : ℕ) → 0 < j → j ≤ length l → places digit (drop j l) * 2 + digit (get_or l (j - 1) 0) ≡ places digit (drop (j - 1) l)
      go zero h k = absurd (omega arith)
      go (suc i) h k = rw (less i) (sym (ap (places digit) (drop-cons l i 0 k) ∙ omega arith))

  -- and fits a machine word that has a place for each entry
  places_fit : ((x : ℕ) → digit x < 2) → (m : ℕ) → length l ≤ m → places digit (drop j l) * 2 + digit (get_or l (j - 1) 0) < 2 ^ m
  places_fit f m w = rw places_back (lt_of_lt_of_le (places-lt digit f (drop (j - 1) l)) (pow_mono (simp length-drop (omega arith))))

  -- the same in the machine's shift and sum
  pub places-joined : ((x : ℕ) → digit x < 2) → length l ≤ 32
      → ((places digit (drop j l) * 2 ^ 1) % 2 ^ 32) ⊕ digit (get_or l (j - 1) 0) ≡ places digit (drop (j - 1) l)
  places-joined f w = joined (places digit (drop j l)) (digit (get_or l (j - 1) 0)) (places_fit f 32 w) (f (get_or l (j - 1) 0)) ∙ places_back
