-- Laws of free places: a syndrome is what is left at the places that are no pivot, and every number of so many places is the syndrome
-- of a word no heavier. Assumes nothing.
use mathlib.Core.Path.{◌≡◌, refl, sym, ap, ap₂, ◌∙◌}
use mathlib.Core.List.{List, [], ◌∷◌, map}
use Prim.Native.Nat.{ℕ, zero, suc, ◌+◌, ◌*◌, ◌/◌, ◌%◌, ◌^◌, ◌≤◌, ◌<◌}
use native.Mathlib.Nat.{le_refl, pow-suc, add-zero, add-suc, suc-add, zero-add}
use native.Mathlib.Omega.{arith}
use lib.ListN.{length}
use lib.Bits.{xor_zero_r}
use lib.Count.{ones_step}
use Rattle.coding.specs.Word.{◌⊕◌, bit, weight, parity}
use Rattle.coding.specs.Matrix.{sel, encode}
use Rattle.coding.specs.Reduce.{rest, frees_from}
use Rattle.coding.specs.Check.{check, checks_of, syndrome}
use Rattle.coding.proofs.WordLaws.{half_lt, bit-half, bit_zeroth}
use Rattle.coding.proofs.WeightLaws.{weight-zero}
use Rattle.coding.proofs.CheckLaws.{rest-place, sel-zero}

-- the free places of w, one after the other
abbrev pub gather : List ℕ → ℕ → ℕ
gather [] w = 0
gather (zero ∷ rs) w = w % 2 + 2 * gather rs (w / 2)
gather (suc r ∷ rs) w = gather rs (w / 2)

-- the word with s at the free places and 0 at the pivots
abbrev pub spread : List ℕ → ℕ → ℕ
spread [] s = 0
spread (zero ∷ rs) s = s % 2 + 2 * spread rs (s / 2)
spread (suc r ∷ rs) s = 2 * spread rs s

syndrome-gather_from : (f : ℕ → ℕ) (rs : List ℕ) (i w x : ℕ) → ((j : ℕ) → parity w (f (i + j)) ≡ bit x j) → syndrome (map f (frees_from i rs)) w ≡ gather rs x
syndrome-gather_from f [] i w x h = refl
syndrome-gather_from f (zero ∷ rs) i w x h =
    ap₂ (λ (a b : ℕ). a + 2 * b) (ap (λ (y : ℕ). parity w (f y)) (sym (add-zero i)) ∙ h 0 ∙ bit_zeroth x)
    (syndrome-gather_from f rs (suc i) w (x / 2) (λ j. ap (λ (y : ℕ). parity w (f y)) (suc-add i j ∙ sym (add-suc i j)) ∙ h (suc j) ∙ bit-half x j))
syndrome-gather_from f (suc r ∷ rs) i w x h =
    syndrome-gather_from f rs (suc i) w (x / 2) (λ j. ap (λ (y : ℕ). parity w (f y)) (suc-add i j ∙ sym (add-suc i j)) ∙ h (suc j) ∙ bit-half x j)

pub syndrome-gather : (B : List ℕ) (w : ℕ) → syndrome (checks_of B) w ≡ gather B (rest B w)
syndrome-gather B w = syndrome-gather_from (check B) B 0 w (rest B w) (λ j. ap (λ (y : ℕ). parity w (check B y)) (zero-add j) ∙ sym (rest-place B w j))

-- the lowest place and the rest of such a number
halved : (a b : ℕ) → (a % 2 + 2 * b) / 2 ≡ b
halved a b = omega arith

lowest : (a b : ℕ) → (a % 2 + 2 * b) % 2 ≡ a % 2
lowest a b = omega arith

twice_half : (b : ℕ) → 2 * b / 2 ≡ b
twice_half b = omega arith

twice_even : (b : ℕ) → 2 * b % 2 ≡ 0
twice_even b = omega arith

pub gather-spread : (i : ℕ) (B : List ℕ) (s : ℕ) → s < 2 ^ length (frees_from i B) → gather B (spread B s) ≡ s
gather-spread i [] s h = omega arith
gather-spread i (zero ∷ rs) s h =
    ap₂ (λ (a b : ℕ). a + 2 * gather rs b) (lowest s (spread rs (s / 2))) (halved s (spread rs (s / 2)))
    ∙ omega (arith, gather-spread (suc i) rs (s / 2) (half_lt (length (frees_from (suc i) rs)) h))
gather-spread i (suc r ∷ rs) s h = ap (gather rs) (twice_half (spread rs s)) ∙ gather-spread (suc i) rs s h

encode-spread : (B : List ℕ) (s : ℕ) → encode B (spread B s) ≡ 0
encode-spread [] s = refl
encode-spread (zero ∷ rs) s =
    ap₂ ◌⊕◌ (sel-zero ((s % 2 + 2 * spread rs (s / 2)) % 2)) (ap (encode rs) (halved s (spread rs (s / 2))) ∙ encode-spread rs (s / 2))
encode-spread (suc r ∷ rs) s =
    ap₂ ◌⊕◌ (ap (λ (c : ℕ). sel c (suc r)) (twice_even (spread rs s))) (ap (encode rs) (twice_half (spread rs s)) ∙ encode-spread rs s)

pub spread-lt : (B : List ℕ) (s : ℕ) → spread B s < 2 ^ length B
spread-lt [] s = le_refl 1
spread-lt (zero ∷ rs) s = omega (arith, spread-lt rs (s / 2), pow-suc 2 (length rs))
spread-lt (suc r ∷ rs) s = omega (arith, spread-lt rs s, pow-suc 2 (length rs))

pub spread_light : (B : List ℕ) (s : ℕ) → weight (spread B s) ≤ weight s
spread_light [] s = omega (arith, weight-zero)
spread_light (zero ∷ rs) s =
    let y = s % 2 + 2 * spread rs (s / 2) in
    let e : weight y ≡ s % 2 + weight (spread rs (s / 2)) = ones_step y ∙ ap₂ (λ (a b : ℕ). a + weight b) (lowest s (spread rs (s / 2)))
    (halved s (spread rs (s / 2))) in
    omega (arith, e, ones_step s, spread_light rs (s / 2))
spread_light (suc r ∷ rs) s =
    let y = 2 * spread rs s in
    let e : weight y ≡ 0 + weight (spread rs s) = ones_step y ∙ ap₂ (λ (a b : ℕ). a + weight b) (twice_even (spread rs s)) (twice_half (spread rs s)) in
    omega (arith, e, spread_light rs s)

-- each number of as many places as there are checks is the syndrome of that word
pub syndrome-spread : (B : List ℕ) (s : ℕ) → s < 2 ^ length (frees_from 0 B) → syndrome (checks_of B) (spread B s) ≡ s
syndrome-spread B s h =
    syndrome-gather B (spread B s)
    ∙ ap (gather B) (ap (λ (x : ℕ). spread B s ⊕ x) (encode-spread B s) ∙ xor_zero_r (spread B s))
    ∙ gather-spread 0 B s h
