-- Laws of dependent rows: where no row is a sum of earlier ones the rows are independent, and the other way round; the
-- elimination's test, that nothing is left of a row, is exactly that the row is a sum of earlier ones. Assumes nothing.
use mathlib.Core.Path.{◌≡◌, sym, ap, ◌∙◌}
use mathlib.Core.Logic.{◌⊎◌, inl, inr, ⊎_elim}
use mathlib.Core.List.{List}
use Prim.Native.Nat.{ℕ, zero, suc, ◌-◌, ◌^◌, ◌≤◌, ◌<◌, min}
use native.Mathlib.Nat.{le_refl, pow-suc, one-mul}
use native.Mathlib.Decide.{dec_le}
use native.Mathlib.Omega.{arith}
use lib.ListN.{length, get_or, take, length-take}
use lib.Seq.{length-take-le, get_or-take, take-take}
use lib.Pow.{pow-lt}
use lib.Bits.{xor_lt, xor_self, xor_shifted}
use Rattle.coding.specs.Lists.{first}
use Rattle.coding.specs.Word.{◌⊕◌}
use Rattle.coding.specs.Matrix.{encode, Inside, Independent, Depends, is_codeword, depends_at}
use Rattle.coding.specs.Reduce.{rest, reduce}
use Rattle.coding.proofs.WordLaws.{xor-eq}
use Rattle.coding.proofs.MatrixLaws.{encode-xor, encode-take, row_message}
use Rattle.coding.proofs.ReduceLaws.{codeword_kept, kept_codeword}
use Rattle.coding.proofs.SearchLaws.{true_false, first-le, first_hit, first-before, first_is, codeword-test, codeword_fails}

-- the first row that is a sum of earlier rows, or the number of rows where none is
abbrev pub first_dependent : List ℕ → ℕ
first_dependent rows = first (depends_at rows) (length rows)

-- a message below 2 ^ suc i has a one at place i, or is below 2 ^ i
top : (i u : ℕ) → u < 2 ^ suc i → (u < 2 ^ i) ⊎ ((v : ℕ) × (v < 2 ^ i) × (u ≡ 2 ^ i ⊕ v))
top i u h = go (dec_le (2 ^ i) u)
  where
    go : Dec (2 ^ i ≤ u) → (u < 2 ^ i) ⊎ ((v : ℕ) × (v < 2 ^ i) × (u ≡ 2 ^ i ⊕ v))
    go (no l) = inl (omega arith)
    go (yes l) = inr (u - 2 ^ i, omega (arith, pow-suc 2 i), sum)
      where
        low : u - 2 ^ i < 2 ^ i
        low = omega (arith, pow-suc 2 i)

        sum : u ≡ 2 ^ i ⊕ (u - 2 ^ i)
        sum = omega (arith, rw (one-mul (2 ^ i)) at (xor_shifted 1 i (u - 2 ^ i) low))

-- a row that is a sum of earlier rows, by a message of the whole matrix
module _ (rs : List ℕ) (i : ℕ) (h : i < length rs) where
  take_size : length (take i rs) ≡ i
  take_size = length-take-le i rs (omega arith)

  pub depends-sum : Depends rs i → (u : ℕ) × (u < 2 ^ i) × (get_or rs i 0 ≡ encode rs u)
  depends-sum (u, l, e) = let k : u < 2 ^ i = rw take_size at l in (u, k, e ∙ encode-take rs i u k)

  pub sum-depends : (u : ℕ) → u < 2 ^ i → get_or rs i 0 ≡ encode rs u → Depends rs i
  sum-depends u l e = (u, rw take_size l, e ∙ sym (encode-take rs i u l))

-- where no row is a sum of earlier ones, only the message 0 has the codeword 0
pub none_independent : (rs : List ℕ) → ((i : ℕ) → i < length rs → Depends rs i → ⊥) → Independent rs
none_independent rs f u h e = go (length rs) (le_refl (length rs)) u h e
  where
    go : (i : ℕ) → i ≤ length rs → (u : ℕ) → u < 2 ^ i → encode rs u ≡ 0 → u ≡ 0
    go zero l u h e = omega arith
    go (suc i) l u h e =
        ⊎_elim (λ k. go i (omega arith) u k e) (λ k. absurd (f i l (sum-depends rs i l k.0 k.1 (found k.0 k.2)))) (top i u h)
      where
        found : (v : ℕ) → u ≡ 2 ^ i ⊕ v → get_or rs i 0 ≡ encode rs v
        found v q =
            xor-eq (get_or rs i 0) (encode rs v)
            (ap (λ (x : ℕ). x ⊕ encode rs v) (sym (row_message rs i l)) ∙ sym (encode-xor rs (2 ^ i) v) ∙ ap (encode rs) (sym q) ∙ e)

-- and among independent rows none is a sum of earlier ones
pub independent_none : (rs : List ℕ) → Independent rs → (i : ℕ) → i < length rs → Depends rs i → ⊥
independent_none rs ind i h d =
    let (u, l, e) = depends-sum rs i h d in
    let z : encode rs (2 ^ i ⊕ u) ≡ 0 =
    encode-xor rs (2 ^ i) u ∙ ap (λ (x : ℕ). x ⊕ encode rs u) (row_message rs i h ∙ e) ∙ xor_self (encode rs u) in
    let below : 2 ^ i ⊕ u < 2 ^ length rs = xor_lt (length rs) (2 ^ i) u (pow-lt h) (omega (arith, pow-lt h)) in
    let same : 2 ^ i ≡ u = xor-eq (2 ^ i) u (ind (2 ^ i ⊕ u) below z) in
    absurd (omega arith)

-- no two messages have one codeword
pub one_message : (rs : List ℕ) → Independent rs → (u v : ℕ) → u < 2 ^ length rs → v < 2 ^ length rs → encode rs u ≡ encode rs v → u ≡ v
one_message rs ind u v hu hv e =
    xor-eq u v (ind (u ⊕ v) (xor_lt (length rs) u v hu hv) (encode-xor rs u v ∙ ap (λ (x : ℕ). x ⊕ encode rs v) e ∙ xor_self (encode rs v)))

-- ---- the first row that is a sum of earlier rows

pub dependent_is : (rs : List ℕ) (r : ℕ) → r ≤ length rs → ((j : ℕ) → j < r → Depends rs j → ⊥) → (r < length rs → Depends rs r)
    → first_dependent rs ≡ r
dependent_is rs r h f t =
    first_is (λ i. is_codeword (take i rs) (get_or rs i 0)) (length rs) r h (λ j l. codeword_fails (take j rs) (get_or rs j 0) (f j l))
    (λ l. (codeword-test (take r rs) (get_or rs r 0)).1 (t l))

pub dependent_there : (rs : List ℕ) → first_dependent rs < length rs → Depends rs (first_dependent rs)
dependent_there rs h =
    (codeword-test (take (first_dependent rs) rs) (get_or rs (first_dependent rs) 0)).0
    (first_hit (λ i. is_codeword (take i rs) (get_or rs i 0)) (length rs) h)

pub dependent_before : (rs : List ℕ) (j : ℕ) → j < first_dependent rs → Depends rs j → ⊥
dependent_before rs j h d =
    true_false ((codeword-test (take j rs) (get_or rs j 0)).1 d) (first-before (λ i. is_codeword (take i rs) (get_or rs i 0)) (length rs) j h)

-- the rows before the one found are independent
pub before-independent : (rs : List ℕ) (r : ℕ) → r ≤ length rs → ((j : ℕ) → j < r → Depends rs j → ⊥) → Independent (take r rs)
before-independent rs r h f = none_independent (take r rs) (λ j l d. f j (rw (length-take-le r rs h) at l) (same j (rw (length-take-le r rs h) at l) d))
  where
    same : (j : ℕ) → j < r → Depends (take r rs) j → Depends rs j
    same j l d = rw (get_or-take r rs j 0 l, take-take j r rs (omega arith)) at d

pub dependent_independent : (rs : List ℕ) → Independent (take (first_dependent rs) rs)
dependent_independent rs =
    before-independent rs (first_dependent rs) (first-le (λ i. is_codeword (take i rs) (get_or rs i 0)) (length rs)) (dependent_before rs)

-- ---- nothing is left of row i by what the earlier rows reduce to, exactly when it is a sum of them

pub inside_take : (n : ℕ) (rs : List ℕ) → Inside n rs → (i : ℕ) → Inside n (take i rs)
inside_take n rs fits i j l =
    let k : j < min i (length rs) = rw length-take at l in
    rw (get_or-take i rs j 0 (omega arith)) (fits j (omega arith))

module _ (n : ℕ) (rs : List ℕ) (fits : Inside n rs) (i : ℕ) where
  pub rest-depends : rest (reduce n (take i rs)) (get_or rs i 0) ≡ 0 → Depends rs i
  rest-depends e = kept_codeword n (take i rs) (inside_take n rs fits i) (get_or rs i 0) (sym (xor-eq _ _ e))

  pub depends-rest : Depends rs i → rest (reduce n (take i rs)) (get_or rs i 0) ≡ 0
  depends-rest d =
      ap (λ (x : ℕ). get_or rs i 0 ⊕ x) (codeword_kept n (take i rs) (inside_take n rs fits i) (get_or rs i 0) d) ∙ xor_self (get_or rs i 0)
