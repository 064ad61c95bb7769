-- Laws of the loops that send: the places of a word are written at every L-th bit, word after word.
use mathlib.Core.Path.{◌≡◌, refl, sym, ap, ap₂, ◌∙◌}
use mathlib.Core.List.{List}
use Prim.Native.Nat.{ℕ, ◌+◌, ◌*◌, ◌/◌, ◌%◌, ◌≤◌, ◌<◌}
use native.Mathlib.Nat.{mod-lt, mod-le, div-add-mod, le_of_mul-le-mul_left, lt_of_mul-lt-mul_left, mul-add, mul-one}
use native.Mathlib.Decide.{dec_le}
use native.Mathlib.Omega.{arith}
use lib.ListN.{length, get_or, set, length-set}
use lib.Seq.{ext_get_or, get_or-set_same, get_or-set_other}
use Rattle.coding.specs.Lists.{tabulate}
use Rattle.coding.specs.Word.{bit}
use Rattle.coding.specs.Interleaving.{sent_bit}
use Rattle.coding.proofs.ListLaws.{length-tabulate, get_d_tabulate}
use Rattle.coding.proofs.InterleavingLaws.{at_div, at_mod, bit_below}
use Rattle.interleaving.specs.Inner.Sent.{Sent}

-- nothing is written yet
pub sent_start : (words bits : List ℕ) → Sent words (length bits) 0 0 bits
sent_start words bits = record { long = refl; words_sent = λ c h k. absurd (omega arith); places_sent = λ c h e k. absurd (omega arith) }

-- two bits of one word less than L apart are one
same_bit : (L b c : ℕ) → 0 < L → c % L ≡ b % L → b ≤ c → c < b + L → c ≡ b
same_bit L b c pos e h k =
    let db = div-add-mod b L in
    let dc = div-add-mod c L in
    let low : b / L ≤ c / L = le_of_mul-le-mul_left {m = b / L} {n = c / L} {k = L} (omega (arith, db, dc, e, h)) pos in
    let high : c / L < b / L + 1 = lt_of_mul-lt-mul_left L {m = c / L} {n = b / L + 1} (rw (mul-add L (b / L) 1, mul-one) (omega (arith, db, dc, e, k))) in
    let same : c / L ≡ b / L = omega arith in
    sym dc ∙ ap₂ (λ (x y : ℕ). L * x + y) same e ∙ db

-- place j of word i is bit L * j + i
module _ (words : List ℕ) (i j : ℕ) (below : i < length words) where
  pos : 0 < length words
  pos = omega arith

  phase : (length words * j + i) % length words ≡ i
  phase = at_mod (length words) pos i j below

  pub sending_below : {n m : ℕ} → m ≡ length words * n → j < n → length words * j + i < m
  sending_below {n} e h = rw e (bit_below (length words) pos n i j below h)

  pub sending_bit : bit (get_or words i 0) j ≡ sent_bit words (length words * j + i)
  sending_bit = sym (ap₂ (λ (x y : ℕ). bit (get_or words x 0) y) phase (at_div (length words) pos i j below))

  pub sending_step : {bits : List ℕ} {m v : ℕ} → length words * j + i < m → v ≡ sent_bit words (length words * j + i)
      → Sent words m i (length words * j + i) bits
      → Sent words m i (length words * (j + 1) + i) (set bits (length words * j + i) v)
  sending_step {bits} {m} {v} h e S = record {
    long = length-set bits b v ∙ S.long;
    words_sent = λ c k l.
        get_or-set_other bits b c v 0 (λ z. absurd (omega (arith, l, phase, ap (λ (x : ℕ). x % length words) z))) ∙ S.words_sent c k l;
    places_sent = λ c k p l. go c k p (omega (arith, l, mul-add (length words) j 1, mul-one (length words))) (dec_le b c);
  }
    where
      b : ℕ
      b = length words * j + i

      go : (c : ℕ) → c < m → c % length words ≡ i → c < b + length words → Dec (b ≤ c) → get_or (set bits b v) c 0 ≡ sent_bit words c
      go c k p l (no n) = get_or-set_other bits b c v 0 (λ z. absurd (omega arith)) ∙ S.places_sent c k p (omega arith)
      go c k p l (yes n) =
          let z : c ≡ b = same_bit (length words) b c pos (p ∙ sym phase) n l in
          rw z (get_or-set_same bits b v 0 (rw S.long h) ∙ e)

-- past the last bit the word is sent
pub sending_end : {words bits : List ℕ} {m i b : ℕ} → m ≤ b → Sent words m i b bits → Sent words m (i + 1) (i + 1) bits
sending_end {words} {bits} {m} {i} {b} h S = record {
  long = S.long;
  words_sent = λ c k l. go c k l (dec_le i (c % length words));
  places_sent = λ c k p l. absurd (omega (arith, p, l, mod-le c (length words)));
}
  where
    go : (c : ℕ) → c < m → c % length words < i + 1 → Dec (i ≤ c % length words) → get_or bits c 0 ≡ sent_bit words c
    go c k l (no n) = S.words_sent c k (omega arith)
    go c k l (yes n) = S.places_sent c k (omega arith) (omega arith)

-- all words are sent
pub sent_end : (words bits : List ℕ) (m i : ℕ) → 0 < length words → length words ≤ i → Sent words m i i bits → bits ≡ tabulate (sent_bit words) m
sent_end words bits m i pos h S =
    ext_get_or 0 _ _ (S.long ∙ sym (length-tabulate (sent_bit words) m))
    (λ c k. let l : c < m = rw S.long at k in
    S.words_sent c l (omega (arith, mod-lt c pos, h)) ∙ sym (get_d_tabulate (sent_bit words) m c l))
