-- Laws of the sum of rows: `encode` is linear in the message, stays within n places, and the codewords are closed under sums.
-- Assumes nothing.
use mathlib.Core.Path.{◌≡◌, refl, sym, ap, ap₂, ◌∙◌}
use mathlib.Core.Logic.{◌≢◌}
use mathlib.Core.List.{List, [], ◌∷◌, ◌++◌, append-nil}
use Prim.Native.Nat.{ℕ, zero, suc, ◌+◌, ◌-◌, ◌*◌, ◌/◌, ◌%◌, ◌^◌, ◌<◌, ◌≤◌, suc-le-suc}
use native.Mathlib.Decide.{dec_le}
use native.Mathlib.Nat.{suc-ne-zero, suc_inj, mod-lt, one-mul}
use native.Mathlib.Numerals.{add-one}
use native.Mathlib.Omega.{arith}
use lib.ListN.{length, get_or, take, drop, drop_of_length-le, length-take, get_or-eq_default}
use lib.Seq.{drop-cons, length-take-le, take-add}
use lib.Pow.{pow_pos, pow-lt, split, mod-mod-pow}
use lib.Bits.{xor_lt, xor_comm, xor_zero_r, xor_self, xor_shifted, block_half, block_odd}
use Rattle.coding.specs.Word.{◌⊕◌, bit}
use Rattle.coding.specs.Matrix.{sel, encode, Codeword, Inside}
use Rattle.coding.proofs.WordLaws.{bit-half, bit_zeroth, bit-pow, bit-pow-other, half_lt, xor_assoc, xor-half, xor-digit, xor-four}

sel-add : (c d r : ℕ) → c < 2 → d < 2 → sel ((c + d) % 2) r ≡ sel c r ⊕ sel d r
sel-add zero zero r hc hd = refl
sel-add zero (suc zero) r hc hd = refl
sel-add zero (suc (suc d)) r hc hd = absurd (omega arith)
sel-add (suc zero) zero r hc hd = sym (xor_zero_r r)
sel-add (suc zero) (suc zero) r hc hd = sym (xor_self r)
sel-add (suc zero) (suc (suc d)) r hc hd = absurd (omega arith)
sel-add (suc (suc c)) d r hc hd = absurd (omega arith)

sel-xor : (u v r : ℕ) → sel ((u ⊕ v) % 2) r ≡ sel (u % 2) r ⊕ sel (v % 2) r
sel-xor u v r = ap (λ (x : ℕ). sel x r) (xor-digit u v) ∙ sel-add (u % 2) (v % 2) r (omega arith) (omega arith)

pub encode-xor : (rs : List ℕ) (u v : ℕ) → encode rs (u ⊕ v) ≡ encode rs u ⊕ encode rs v
encode-xor [] u v = refl
encode-xor (r ∷ rs) u v =
    ap₂ ◌⊕◌ (sel-xor u v r) (ap (encode rs) (xor-half u v) ∙ encode-xor rs (u / 2) (v / 2))
    ∙ xor-four (sel (u % 2) r) (sel (v % 2) r) (encode rs (u / 2)) (encode rs (v / 2))

pub encode-zero : (rs : List ℕ) → encode rs 0 ≡ 0
encode-zero [] = refl
encode-zero (r ∷ rs) = encode-zero rs

pub sel-lt : (n c r : ℕ) → r < 2 ^ n → sel c r < 2 ^ n
sel-lt n zero r h = pow_pos n
sel-lt n (suc c) r h = h

pub encode-lt : (n : ℕ) (rs : List ℕ) → Inside n rs → (u : ℕ) → encode rs u < 2 ^ n
encode-lt n [] f u = pow_pos n
encode-lt n (r ∷ rs) f u =
    xor_lt n (sel (u % 2) r) (encode rs (u / 2)) (sel-lt n (u % 2) r (f 0 (omega arith))) (encode-lt n rs (λ i h. f (suc i) (suc-le-suc h)) (u / 2))

pub codeword-lt : (n : ℕ) (rs : List ℕ) → Inside n rs → (w : ℕ) → Codeword rs w → w < 2 ^ n
codeword-lt n rs f w (u, h, e) = rw e (encode-lt n rs f u)

-- ---- a loop over the rows: w is the sum so far, and the rows from i on with the places of m are still to come

encode-drop : (rs : List ℕ) (i m : ℕ) → i < length rs → encode (drop i rs) m ≡ sel (m % 2) (get_or rs i 0) ⊕ encode (drop (i + 1) rs) (m / 2)
encode-drop rs i m h =
    ap (λ (l : List ℕ). encode l m) (drop-cons rs i 0 h) ∙ ap (λ (n : ℕ). sel (m % 2) (get_or rs i 0) ⊕ encode (drop n rs) (m / 2)) (sym (add-one i))

pub encode_step : (rs : List ℕ) (i m w e : ℕ) → i < length rs → w ⊕ encode (drop i rs) m ≡ e
    → (w ⊕ sel (m % 2) (get_or rs i 0)) ⊕ encode (drop (i + 1) rs) (m / 2) ≡ e
encode_step rs i m w e h k =
    xor_assoc w (sel (m % 2) (get_or rs i 0)) (encode (drop (i + 1) rs) (m / 2)) ∙ ap (λ (x : ℕ). w ⊕ x) (sym (encode-drop rs i m h)) ∙ k

pub encode_end : (rs : List ℕ) (i m w e : ℕ) → length rs ≤ i → w ⊕ encode (drop i rs) m ≡ e → w ≡ e
encode_end rs i m w e h k = sym (xor_zero_r w) ∙ ap (λ (l : List ℕ). w ⊕ encode l m) (sym (drop_of_length-le rs h)) ∙ k

-- only one row is selected, or none
pub encode_none : (rs : List ℕ) (u : ℕ) → ((i : ℕ) → i < length rs → sel (bit u i) (get_or rs i 0) ≡ 0) → encode rs u ≡ 0
encode_none [] u f = refl
encode_none (r ∷ rs) u f =
    ap₂ ◌⊕◌ (rw bit_zeroth at (f 0 (omega arith))) (encode_none rs (u / 2) (λ i h. rw bit-half at (f (suc i) (suc-le-suc h))))

pub encode_one : (rs : List ℕ) (u p : ℕ) → p < length rs → ((i : ℕ) → i < length rs → i ≢ p → sel (bit u i) (get_or rs i 0) ≡ 0)
    → encode rs u ≡ sel (bit u p) (get_or rs p 0)
encode_one [] u p h f = absurd (omega arith)
encode_one (r ∷ rs) u zero h f =
    ap₂ ◌⊕◌ (ap (λ (x : ℕ). sel x r) (sym (bit_zeroth u))) (encode_none rs (u / 2) (λ i l. rw bit-half at (f (suc i) (suc-le-suc l) (suc-ne-zero i))))
    ∙ xor_zero_r (sel (bit u 0) r)
encode_one (r ∷ rs) u (suc p) h f =
    ap₂ ◌⊕◌ (rw bit_zeroth at (f 0 (omega arith) (omega arith)))
    (encode_one rs (u / 2) p (omega arith) (λ i l ne. rw bit-half at (f (suc i) (suc-le-suc l) (λ e. ne (suc_inj e))))
    ∙ ap (λ (x : ℕ). sel x (get_or rs p 0)) (sym (bit-half u p)))

-- a linear map that keeps each row keeps each sum of rows
pub encode_kept : (f : ℕ → ℕ) → f 0 ≡ 0 → ((a b : ℕ) → f (a ⊕ b) ≡ f a ⊕ f b) → (rs : List ℕ)
    → ((i : ℕ) → i < length rs → f (get_or rs i 0) ≡ get_or rs i 0) → (u : ℕ) → f (encode rs u) ≡ encode rs u
encode_kept f z lin [] k u = z
encode_kept f z lin (r ∷ rs) k u =
    lin (sel (u % 2) r) (encode rs (u / 2)) ∙ ap₂ ◌⊕◌ (go (u % 2)) (encode_kept f z lin rs (λ i h. k (suc i) (suc-le-suc h)) (u / 2))
  where
    go : (c : ℕ) → f (sel c r) ≡ sel c r
    go zero = z
    go (suc c) = k 0 (omega arith)

pub codeword-zero : (rs : List ℕ) → Codeword rs 0
codeword-zero rs = (0, pow_pos (length rs), sym (encode-zero rs))

pub codeword-xor : (rs : List ℕ) (a b : ℕ) → Codeword rs a → Codeword rs b → Codeword rs (a ⊕ b)
codeword-xor rs a b (u, hu, eu) (v, hv, ev) = (u ⊕ v, xor_lt (length rs) u v hu hv, ap₂ ◌⊕◌ eu ev ∙ sym (encode-xor rs u v))

-- whatever holds the rows and is closed under sums holds every sum of rows
module _ (C : ℕ → Type 0) (C-zero : C 0) (C-xor : (a b : ℕ) → C a → C b → C (a ⊕ b)) where
  pub sel_in : (c : ℕ) {x : ℕ} → C x → C (sel c x)
  sel_in zero h = C-zero
  sel_in (suc c) h = h

  pub encode_in : (rs : List ℕ) → ((i : ℕ) → i < length rs → C (get_or rs i 0)) → (u : ℕ) → C (encode rs u)
  encode_in [] f u = C-zero
  encode_in (r ∷ rs) f u = C-xor _ _ (sel_in (u % 2) (f 0 (omega arith))) (encode_in rs (λ i h. f (suc i) (suc-le-suc h)) (u / 2))

pub row_message : (rs : List ℕ) (i : ℕ) → i < length rs → encode rs (2 ^ i) ≡ get_or rs i 0
row_message rs i h =
    encode_one rs (2 ^ i) i h (λ j l ne. ap (λ (x : ℕ). sel x (get_or rs j 0)) (bit-pow-other i j ne)) ∙ ap (λ (x : ℕ). sel x (get_or rs i 0)) (bit-pow i)

pub row_codeword : (rs : List ℕ) (i : ℕ) → i < length rs → Codeword rs (get_or rs i 0)
row_codeword rs i h = (2 ^ i, pow-lt h, sym (row_message rs i h))

-- a message of i places selects among the first i rows
pub encode-take : (rs : List ℕ) (i u : ℕ) → u < 2 ^ i → encode (take i rs) u ≡ encode rs u
encode-take [] zero u h = refl
encode-take [] (suc i) u h = refl
encode-take (r ∷ rs) zero u h = let e : u ≡ 0 = omega arith in rw e (sym (encode-zero (r ∷ rs)))
encode-take (r ∷ rs) (suc i) u h = ap (λ (x : ℕ). sel (u % 2) r ⊕ x) (encode-take rs i (u / 2) (half_lt i h))

-- a message for the first rows and one for the others, in one number
pub encode-split : (front others : List ℕ) (h i : ℕ) → i < 2 ^ length front
    → encode (front ++ others) (h * 2 ^ length front + i) ≡ encode front i ⊕ encode others h
encode-split [] others h i k = let e : h * 2 ^ 0 + i ≡ h = omega arith in ap (encode others) e
encode-split (r ∷ front) others h i k =
    ap₂ (λ (a b : ℕ). sel a r ⊕ encode (front ++ others) b) (block_odd h (length front) i) (block_half h (length front) i)
    ∙ ap (λ (x : ℕ). sel (i % 2) r ⊕ x) (encode-split front others h (i / 2) (half_lt (length front) k))
    ∙ sym (xor_assoc (sel (i % 2) r) (encode front (i / 2)) (encode others h))

-- rows see the low places of a number, as many as they are
low-places : (rs : List ℕ) (u : ℕ) → encode rs (u % 2 ^ length rs) ≡ encode rs u
low-places rs u =
    let k = length rs in
    sym (xor_zero_r _) ∙ sym (encode-split rs [] (u / 2 ^ k) (u % 2 ^ k) (mod-lt u (pow_pos k))) ∙ ap₂ encode (append-nil rs) (split u k)

pub encode-low : (rs : List ℕ) (m u : ℕ) → length rs ≤ m → encode rs (u % 2 ^ m) ≡ encode rs u
encode-low rs m u h =
    let k = length rs in
    let e : m - k + k ≡ m = omega arith in
    ap (λ (x : ℕ). encode rs (u % 2 ^ x)) (sym e) ∙ sym (low-places rs (u % 2 ^ (m - k + k))) ∙ ap (encode rs) (mod-mod-pow u (m - k) k) ∙ low-places rs u

-- the first rows see the low places, the others the rest
pub encode-append : (front others : List ℕ) (u : ℕ) → encode (front ++ others) u ≡ encode front u ⊕ encode others (u / 2 ^ length front)
encode-append front others u =
    let k = length front in
    ap (encode (front ++ others)) (sym (split u k)) ∙ encode-split front others (u / 2 ^ k) (u % 2 ^ k) (mod-lt u (pow_pos k))
    ∙ ap (λ (x : ℕ). x ⊕ encode others (u / 2 ^ k)) (low-places front u)

-- the rows up to e, from those up to i and the group between, of which eight places of the message see all
pub encode_group : (rs : List ℕ) (i e u : ℕ) → i ≤ e → e ≤ length rs → e ≤ i + 8
    → encode (take e rs) u ≡ encode (take i rs) u ⊕ encode (take (e - i) (drop i rs)) (u / 2 ^ i % 256)
encode_group rs i e u h k few =
    let m : i + (e - i) ≡ e = omega arith in
    let long : length (take i rs) ≡ i = length-take-le i rs (omega arith) in
    let group = take (e - i) (drop i rs) in
    let small : length group ≤ 8 = omega (arith, length-take (e - i) (drop i rs)) in
    ap (λ (x : ℕ). encode (take x rs) u) (sym m) ∙ ap (λ (l : List ℕ). encode l u) (take-add i (e - i) rs)
    ∙ encode-append (take i rs) group u ∙ ap (λ (x : ℕ). encode (take i rs) u ⊕ encode group (u / 2 ^ x)) long
    ∙ ap (λ (x : ℕ). encode (take i rs) u ⊕ x) (sym (encode-low group 8 (u / 2 ^ i) small))

-- the word with a one at place i selects row i, and none where there is no such row
pub unit_row : (rs : List ℕ) (i : ℕ) → encode rs (2 ^ i) ≡ get_or rs i 0
unit_row rs i = go (dec_le (suc i) (length rs))
  where
    go : Dec (i < length rs) → encode rs (2 ^ i) ≡ get_or rs i 0
    go (yes h) = row_message rs i h
    go (no out) =
        encode_none rs (2 ^ i) (λ j h. ap (λ (x : ℕ). sel x (get_or rs j 0)) (bit-pow-other i j (omega arith)))
        ∙ sym (get_or-eq_default rs 0 (omega arith))

-- a one at place i, above the places of j, adds row i
pub encode_top : (rs : List ℕ) (i j : ℕ) → j < 2 ^ i → encode rs (2 ^ i + j) ≡ encode rs j ⊕ get_or rs i 0
encode_top rs i j h =
    ap (encode rs) (sym (rw one-mul at (xor_shifted 1 i j h))) ∙ encode-xor rs (2 ^ i) j ∙ ap (λ (x : ℕ). x ⊕ encode rs j) (unit_row rs i)
    ∙ xor_comm (get_or rs i 0) (encode rs j)
