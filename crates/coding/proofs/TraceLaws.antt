-- Laws of the messages that stand beside the reduced rows: each has its row as its codeword, and every step of the elimination keeps
-- that, so the sum of the messages at a codeword's pivots is its message. Assumes nothing.
use mathlib.Core.Path.{◌≡◌, refl, sym, ap, ap₂, ◌∙◌}
use mathlib.Core.List.{List, [], ◌∷◌, map}
use Prim.Native.Nat.{ℕ, zero, suc, ◌/◌, ◌%◌, ◌^◌, ◌≤◌, ◌<◌, suc-le-suc}
use native.Mathlib.Nat.{le_of_suc-le-suc}
use native.Mathlib.Decide.{ℕ_discrete}
use native.Mathlib.Omega.{arith}
use lib.ListN.{length, get_or, set, length-set}
use lib.Seq.{get_or-set_same, get_or-set_other}
use lib.Pow.{pow_pos}
use lib.Bits.{xor_lt}
use Rattle.coding.specs.Lists.{zeros}
use Rattle.coding.specs.Word.{◌⊕◌, bit}
use Rattle.coding.specs.Matrix.{sel, encode, Codeword, Inside, Independent, IsMessage, message_of}
use Rattle.coding.specs.Reduce.{wipe, put, reduce}
use Rattle.coding.specs.Inner.Beside.{wipes}
use Rattle.coding.specs.Reduced.{Traced}
use Rattle.coding.proofs.MatrixLaws.{sel-lt, encode-xor, encode-zero, encode-lt}
use Rattle.coding.proofs.ReduceLaws.{put-length, put_same, put_other, zeros_at, codeword_kept}
use Rattle.coding.proofs.SearchLaws.{message_hit, message_le}
use Rattle.coding.proofs.DependLaws.{one_message}

pub sel-encode : (rs : List ℕ) (c m : ℕ) → encode rs (sel c m) ≡ sel c (encode rs m)
sel-encode rs zero m = encode-zero rs
sel-encode rs (suc c) m = refl

-- x is the codeword of m, one of the messages
abbrev pub Trace : List ℕ → ℕ → ℕ → Type 0
Trace rs m x = (m < 2 ^ length rs) × (encode rs m ≡ x)

-- and stays so where a row and its message are added
pub trace_step : (rs : List ℕ) (m x c k y : ℕ) → Trace rs m x → Trace rs k y → Trace rs (m ⊕ sel c k) (x ⊕ sel c y)
trace_step rs m x c k y (hm, em) (hk, ek) = (
  xor_lt (length rs) m (sel c k) hm (sel-lt (length rs) c k hk),
  encode-xor rs m (sel c k) ∙ ap₂ ◌⊕◌ em (sel-encode rs c k ∙ ap (sel c) ek),
)

pub traced_at : (rs M B : List ℕ) → Traced rs M B → (p : ℕ) → p < length B → Trace rs (get_or M p 0) (get_or B p 0)
traced_at rs M B t p h = (t.below p (rw t.size h), t.sums p h)

pub traced_start : (rs : List ℕ) (n : ℕ) → Traced rs (zeros n) (zeros n)
traced_start rs n = record {
  size = refl;
  below = λ p h. rw (zeros_at n p h) (pow_pos (length rs));
  sums = λ p h. rw (zeros_at n p h) (encode-zero rs);
}

-- ---- a row is put at its pivot, and its message beside it

pub wipes-length : (q : ℕ) (B M : List ℕ) (m : ℕ) → length M ≡ length B → length (wipes q B M m) ≡ length B
wipes-length q [] M m e = refl
wipes-length q (b ∷ B) [] m e = absurd (omega arith)
wipes-length q (b ∷ B) (y ∷ M) m e = ap suc (wipes-length q B M m (omega arith))

pub wipes_at : (q : ℕ) (B M : List ℕ) (m p : ℕ) → length M ≡ length B → p < length B
    → get_or (wipes q B M m) p 0 ≡ get_or M p 0 ⊕ sel (bit (get_or B p 0) q) m
wipes_at q [] M m p e h = absurd (omega arith)
wipes_at q (b ∷ B) [] m p e h = absurd (omega arith)
wipes_at q (b ∷ B) (y ∷ M) m zero e h = refl
wipes_at q (b ∷ B) (y ∷ M) m (suc p) e h = wipes_at q B M m p (omega arith) (le_of_suc-le-suc h)

-- the rows themselves are wiped alike
pub wipes_self : (q : ℕ) (B : List ℕ) (x : ℕ) → wipes q B B x ≡ map (wipe q x) B
wipes_self q [] x = refl
wipes_self q (b ∷ B) x = ap (λ (l : List ℕ). wipe q x b ∷ l) (wipes_self q B x)

pub traced-put : (rs M B : List ℕ) → Traced rs M B → (q m x : ℕ) → q < length B → Trace rs m x → Traced rs (set (wipes q B M m) q m) (put q B x)
traced-put rs M B t q m x hq tr = record {
  size = length-set (wipes q B M m) q m ∙ wipes-length q B M m t.size ∙ sym (put-length q B x);
  below = λ p h. (both p (rw (length-set (wipes q B M m) q m ∙ wipes-length q B M m t.size) at h)).0;
  sums = λ p h. (both p (rw (put-length q B x) at h)).1;
}
  where
    both : (p : ℕ) → p < length B → Trace rs (get_or (set (wipes q B M m) q m) p 0) (get_or (put q B x) p 0)
    both p h = go (ℕ_discrete p q)
      where
        go : Dec (p ≡ q) → Trace rs (get_or (set (wipes q B M m) q m) p 0) (get_or (put q B x) p 0)
        go (yes e) =
            rw (e, get_or-set_same (wipes q B M m) q m 0 (rw (wipes-length q B M m t.size) hq), put_same q B x hq) tr
        go (no k) =
            rw (get_or-set_other (wipes q B M m) q p m 0 k, wipes_at q B M m p t.size h, put_other q B x p k)
            (trace_step rs (get_or M p 0) (get_or B p 0) (bit (get_or B p 0) q) m x (traced_at rs M B t p h) tr)

-- ---- messages read back

-- the sum of the messages that w's pivots ask for has the sum of their rows as its codeword
traced_sums : (rs M B : List ℕ) → length M ≡ length B → ((p : ℕ) → p < length B → encode rs (get_or M p 0) ≡ get_or B p 0)
    → (w : ℕ) → encode rs (encode M w) ≡ encode B w
traced_sums rs [] [] e f w = encode-zero rs
traced_sums rs [] (b ∷ B) e f w = absurd (omega arith)
traced_sums rs (m ∷ M) [] e f w = absurd (omega arith)
traced_sums rs (m ∷ M) (b ∷ B) e f w =
    encode-xor rs (sel (w % 2) m) (encode M (w / 2))
    ∙ ap₂ ◌⊕◌ (sel-encode rs (w % 2) m ∙ ap (sel (w % 2)) (f 0 (omega arith)))
    (traced_sums rs M B (omega arith) (λ p h. f (suc p) (suc-le-suc h)) (w / 2))

module _ (n : ℕ) (rs M : List ℕ) (fits : Inside n rs) (t : Traced rs M (reduce n rs)) where
  pub message_trace : (w : ℕ) → Codeword rs w → Trace rs (encode M w) w
  message_trace w c = (encode-lt (length rs) M t.below w, traced_sums rs M (reduce n rs) t.size t.sums w ∙ codeword_kept n rs fits w c)

-- the message of a codeword, where the rows are independent
module _ (rs : List ℕ) (ind : Independent rs) where
  pub trace_message : (u w : ℕ) → Trace rs u w → message_of rs w ≡ u
  trace_message u w (h, e) =
      let l : message_of rs w ≤ u = message_le rs w u e in
      let k : message_of rs w < 2 ^ length rs = omega arith in
      one_message rs ind (message_of rs w) u k h (message_hit rs w k ∙ sym e)

  pub trace_is : (u w : ℕ) → Trace rs u w → IsMessage rs w u
  trace_is u w (h, e) = record { below = h; codeword = e; only = λ v l k. one_message rs ind v u l h (k ∙ sym e) }

  -- 00, demand 2: the message comes back
  pub message_back : (u : ℕ) → u < 2 ^ length rs → message_of rs (encode rs u) ≡ u
  message_back u h = trace_message u (encode rs u) (h, refl)
