-- Laws of reduced rows by place: what is left of a word has a 0 at each pivot, each sum of rows is kept, and a word is a sum of
-- the rows exactly when its syndrome is 0. Assumes nothing.
use mathlib.Core.Path.{◌≡◌, refl, sym, ap, ◌∙◌}
use mathlib.Core.Logic.{◌≢◌}
use mathlib.Core.List.{List}
use Prim.Native.Nat.{ℕ, zero, suc, ◌+◌, ◌^◌, ◌%◌, ◌<◌, ◌≤◌, min}
use native.Mathlib.Nat.{zero-add}
use native.Mathlib.Decide.{ℕ_discrete}
use native.Mathlib.Omega.{arith}
use lib.ListN.{length, get_or}
use lib.Pow.{pow_pos}
use lib.Bits.{xor_lt, xor_self, xor_zero_r}
use Rattle.coding.specs.Word.{◌⊕◌, bit, parity}
use Rattle.coding.specs.Matrix.{sel, encode, Inside}
use Rattle.coding.specs.Reduce.{rest}
use Rattle.coding.specs.Check.{check, checks_of, syndrome}
use Rattle.coding.proofs.WordLaws.{bit-lt, bit_of_zero, bit_xor, ext, xor-eq, xor-four}
use Rattle.coding.proofs.WeightLaws.{parity-zero}
use Rattle.coding.proofs.MatrixLaws.{encode-xor, encode-zero, encode_one, encode_none, encode_kept, encode-lt}
use Rattle.coding.proofs.CheckLaws.{bit-sel, rest-place, column_unit, sel-zero, syndrome-each, syndrome_none}

-- the rows by place have the shape of 01, part 1: row p's leftmost one is at p, and each pivot place is 0 in every other row
pub record ByPlace (n : ℕ) (B : List ℕ) : Type 0 where
  pub size : length B ≡ n
  pub below : Inside n B
  pub lead : (p : ℕ) → p < length B → get_or B p 0 ≢ 0 → bit (get_or B p 0) p ≡ 1
  pub leftmost : (p j : ℕ) → p < length B → j < p → bit (get_or B p 0) j ≡ 0
  pub clear : (p q : ℕ) → p < length B → q < length B → p ≢ q → get_or B q 0 ≢ 0 → bit (get_or B p 0) q ≡ 0

module _ (n : ℕ) (B : List ℕ) (R : ByPlace n B) where
  -- what is left has a 0 at each pivot
  pub rest_pivot : (w q : ℕ) → q < length B → get_or B q 0 ≢ 0 → bit (rest B w) q ≡ 0
  rest_pivot w q h ne =
      rest-place B w q
      ∙ ap (λ (x : ℕ). parity w (2 ^ q ⊕ x)) (column_unit B q q h (λ i l k. R.clear i q l h k ne) (R.lead q h ne))
      ∙ ap (parity w) (xor_self (2 ^ q)) ∙ parity-zero w

  -- each row is kept
  pub row_kept : (p : ℕ) → p < length B → encode B (get_or B p 0) ≡ get_or B p 0
  row_kept p h = go (ℕ_discrete (get_or B p 0) 0)
    where
      other : (i : ℕ) → i < length B → i ≢ p → Dec (get_or B i 0 ≡ 0) → sel (bit (get_or B p 0) i) (get_or B i 0) ≡ 0
      other i l k (yes e) = ap (sel (bit (get_or B p 0) i)) e ∙ sel-zero (bit (get_or B p 0) i)
      other i l k (no ne) = ap (λ (x : ℕ). sel x (get_or B i 0)) (R.clear p i h l (λ e. k (sym e)) ne)

      go : Dec (get_or B p 0 ≡ 0) → encode B (get_or B p 0) ≡ get_or B p 0
      go (yes e) = ap (encode B) e ∙ encode-zero B ∙ sym e
      go (no ne) =
          encode_one B (get_or B p 0) p h (λ i l k. other i l k (ℕ_discrete (get_or B i 0) 0))
          ∙ ap (λ (x : ℕ). sel x (get_or B p 0)) (R.lead p h ne)

  pub encode_twice : (w : ℕ) → encode B (encode B w) ≡ encode B w
  encode_twice = encode_kept (encode B) (encode-zero B) (encode-xor B) B row_kept

  -- a syndrome of 0: the word is the sum of the rows at its pivots
  pub syndrome_kept : (w : ℕ) → w < 2 ^ n → syndrome (checks_of B) w ≡ 0 → encode B w ≡ w
  syndrome_kept w h e = sym (xor-eq w (encode B w) (ext n (xor_lt n w (encode B w) h (encode-lt n B R.below w)) (pow_pos n)
      (λ q l. place q (rw R.size l) (ℕ_discrete (get_or B q 0) 0) ∙ sym (bit_of_zero q))))
    where
      place : (q : ℕ) → q < length B → Dec (get_or B q 0 ≡ 0) → bit (rest B w) q ≡ 0
      place q l (yes z) = rest-place B w q ∙ rw zero-add at (syndrome-each (check B) B 0 w e q l z)
      place q l (no ne) = rest_pivot w q l ne

-- and every such word has it, whatever B is
pub kept_syndrome : (B : List ℕ) (w : ℕ) → encode B w ≡ w → syndrome (checks_of B) w ≡ 0
kept_syndrome B w e =
    syndrome_none (check B) B 0 w (λ j. sym (rest-place B w j) ∙ ap (λ (x : ℕ). bit (w ⊕ x) j) e ∙ ap (λ (x : ℕ). bit x j) (xor_self w) ∙ bit_of_zero j)

-- ---- a row is cleared place by place

pub rest-xor : (B : List ℕ) (a b : ℕ) → rest B (a ⊕ b) ≡ rest B a ⊕ rest B b
rest-xor B a b = ap (λ (x : ℕ). (a ⊕ b) ⊕ x) (encode-xor B a b) ∙ xor-four a b (encode B a) (encode B b)

pub rest-zero : (B : List ℕ) → rest B 0 ≡ 0
rest-zero B = encode-zero B

-- x has a 0 at each pivot below p, and leaves what r leaves
pub record Cleared (B : List ℕ) (r p x : ℕ) : Type 0 where
  pub leaves : rest B x ≡ rest B r
  pub zeros : (q : ℕ) → q < p → q < length B → get_or B q 0 ≢ 0 → bit x q ≡ 0

pub cleared_start : (B : List ℕ) (r : ℕ) → Cleared B r 0 r
cleared_start B r = record { leaves = refl; zeros = λ q h. absurd (omega arith) }

module _ (n : ℕ) (B : List ℕ) (R : ByPlace n B) (r p x : ℕ) (C : Cleared B r p x) where
  -- the row of place p, if any, is added where x has a one there
  pub cleared_step : p < length B → Cleared B r (p + 1) (x ⊕ sel (bit x p) (get_or B p 0))
  cleared_step h = record { leaves = leaves; zeros = λ q l k ne. zeros q l k ne (ℕ_discrete q p) }
    where
      row_left : (c : ℕ) → rest B (sel c (get_or B p 0)) ≡ 0
      row_left zero = rest-zero B
      row_left (suc c) = ap (λ (y : ℕ). get_or B p 0 ⊕ y) (row_kept n B R p h) ∙ xor_self (get_or B p 0)

      leaves : rest B (x ⊕ sel (bit x p) (get_or B p 0)) ≡ rest B r
      leaves =
          rest-xor B x (sel (bit x p) (get_or B p 0)) ∙ ap (λ (y : ℕ). rest B x ⊕ y) (row_left (bit x p)) ∙ xor_zero_r (rest B x) ∙ C.leaves

      at : (q : ℕ) → bit (x ⊕ sel (bit x p) (get_or B p 0)) q ≡ (bit x q + min (bit x p) (bit (get_or B p 0) q)) % 2
      at q = bit_xor x (sel (bit x p) (get_or B p 0)) q ∙ ap (λ (y : ℕ). (bit x q + y) % 2) (bit-sel (bit x p) (get_or B p 0) q (bit-lt x p))

      zeros : (q : ℕ) → q < p + 1 → q < length B → get_or B q 0 ≢ 0 → Dec (q ≡ p) → bit (x ⊕ sel (bit x p) (get_or B p 0)) q ≡ 0
      zeros q l k ne (yes e) =
          let one : bit (get_or B p 0) p ≡ 1 = R.lead p h (rw e at ne) in
          rw e (omega (arith, at p, one, bit-lt x p))
      zeros q l k ne (no d) = omega (arith, at q, C.zeros q (omega arith) k ne, R.clear p q h k (λ e. d (sym e)) ne)

  -- past the last place x is what is left of r
  pub cleared_end : length B ≤ p → x ≡ rest B r
  cleared_end l =
      sym (xor_zero_r x) ∙ ap (λ (y : ℕ). x ⊕ y) (sym (encode_none B x (λ i h. none i h (ℕ_discrete (get_or B i 0) 0)))) ∙ C.leaves
    where
      none : (i : ℕ) → i < length B → Dec (get_or B i 0 ≡ 0) → sel (bit x i) (get_or B i 0) ≡ 0
      none i h (yes z) = ap (sel (bit x i)) z ∙ sel-zero (bit x i)
      none i h (no ne) = ap (λ (c : ℕ). sel c (get_or B i 0)) (C.zeros i (omega arith) h ne)

-- a row that has cancelled leaves nothing
pub cleared-zero : (B : List ℕ) (r p : ℕ) → Cleared B r p 0 → rest B r ≡ 0
cleared-zero B r p C = sym C.leaves ∙ rest-zero B
