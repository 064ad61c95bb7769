-- Laws of a systematic generator matrix [P | I]: the codeword of a message is the sum of rows of P and then the message itself, so a
-- word is a codeword exactly when its first places are that sum for the rest, and its message is the rest. Assumes nothing.
use mathlib.Core.Path.{◌≡◌, refl, sym, ap, ap₂, ◌∙◌}
use mathlib.Core.Logic.{◌↔◌}
use mathlib.Core.List.{List, [], ◌∷◌}
use Prim.Native.Nat.{ℕ, zero, suc, ◌+◌, ◌*◌, ◌/◌, ◌%◌, ◌^◌, ◌≤◌, ◌<◌, suc-le-suc}
use native.Mathlib.Nat.{pow-suc, mul_comm, one-mul, zero-mul, mul_assoc, add-mul, div-add-mod', suc-mul, mul-le-mul_right, lt_of_lt_of_le, zero-div}
use native.Mathlib.Omega.{arith}
use lib.ListN.{length}
use lib.Pow.{pow_pos, pow_mono, pow-lt, pow-add, shr_lt, split, high, low}
use lib.Bits.{xor_comm, xor_self, xor_shifted, xor_shr, xor_mod}
use Rattle.coding.specs.Word.{◌⊕◌}
use Rattle.coding.specs.Matrix.{sel, encode, Codeword, IsMessage, Inside, Independent}
use Rattle.coding.specs.Systematic.{systematic}
use Rattle.coding.specs.Inner.SystematicSyndrome.{systematic_syndrome}
use Rattle.coding.proofs.WordLaws.{xor-eq, xor-four, half_lt}
use Rattle.coding.proofs.MatrixLaws.{encode-xor, encode-lt, row_message}

pub systematic-length : (m : ℕ) (P : List ℕ) → length (systematic m P) ≡ length P
systematic-length m [] = refl
systematic-length m (p ∷ P) = ap suc (systematic-length (suc m) P)

inside_tail : (m p : ℕ) (P : List ℕ) → Inside m (p ∷ P) → Inside (suc m) P
inside_tail m p P f i h = lt_of_lt_of_le (f (suc i) (suc-le-suc h)) (pow_mono (omega arith))

systematic-sum : (m : ℕ) (P : List ℕ) → Inside m P → (u : ℕ) → u < 2 ^ length P → encode (systematic m P) u ≡ u * 2 ^ m ⊕ encode P u
systematic-sum m [] f u h = let e : u ≡ 0 = omega arith in rw e (sym (ap (λ (x : ℕ). x ⊕ 0) (zero-mul (2 ^ m))))
systematic-sum m (p ∷ P) f u h =
    ap₂ ◌⊕◌ (row (u % 2) (omega arith)) (systematic-sum (suc m) P (inside_tail m p P f) (u / 2) (half_lt (length P) h))
    ∙ xor-four (u % 2 * 2 ^ m) (sel (u % 2) p) (u / 2 * 2 ^ suc m) (encode P (u / 2))
    ∙ ap (λ (x : ℕ). x ⊕ (sel (u % 2) p ⊕ encode P (u / 2))) (xor_comm (u % 2 * 2 ^ m) (u / 2 * 2 ^ suc m) ∙ message)
  where
    row : (c : ℕ) → c < 2 → sel c (p + 2 ^ m) ≡ c * 2 ^ m ⊕ sel c p
    row zero l = sym (ap (λ (x : ℕ). x ⊕ 0) (zero-mul (2 ^ m)))
    row (suc zero) l = let e : p + 2 ^ m ≡ 1 * 2 ^ m + p = omega arith in e ∙ sym (xor_shifted 1 m p (f 0 (omega arith)))
    row (suc (suc c)) l = absurd (omega arith)

    lowest : (c : ℕ) → c < 2 → c * 2 ^ m < 2 ^ suc m
    lowest zero l = omega (arith, zero-mul (2 ^ m), pow_pos (suc m))
    lowest (suc zero) l = omega (arith, one-mul (2 ^ m), pow-suc 2 m, pow_pos m)
    lowest (suc (suc c)) l = absurd (omega arith)

    message : u / 2 * 2 ^ suc m ⊕ u % 2 * 2 ^ m ≡ u * 2 ^ m
    message = xor_shifted (u / 2) (suc m) (u % 2 * 2 ^ m) (lowest (u % 2) (omega arith))
        ∙ ap (λ (x : ℕ). x + u % 2 * 2 ^ m) (ap (λ (x : ℕ). u / 2 * x) (pow-suc 2 m ∙ mul_comm (2 ^ m) 2) ∙ sym (mul_assoc (u / 2) 2 (2 ^ m)))
        ∙ sym (add-mul (u / 2 * 2) (u % 2) (2 ^ m))
        ∙ ap (λ (x : ℕ). x * 2 ^ m) (div-add-mod' u 2)

module _ (m : ℕ) (P : List ℕ) (f : Inside m P) where
  -- the codeword of a message
  pub systematic-codeword : (u : ℕ) → u < 2 ^ length P → encode (systematic m P) u ≡ u * 2 ^ m + encode P u
  systematic-codeword u h = systematic-sum m P f u h ∙ xor_shifted u m (encode P u) (encode-lt m P f u)

  message_part : (u : ℕ) → u < 2 ^ length P → encode (systematic m P) u / 2 ^ m ≡ u
  message_part u h = ap (λ (x : ℕ). x / 2 ^ m) (systematic-codeword u h) ∙ high u m (encode-lt m P f u)

  check_part : (u : ℕ) → u < 2 ^ length P → encode (systematic m P) u % 2 ^ m ≡ encode P u
  check_part u h = ap (λ (x : ℕ). x % 2 ^ m) (systematic-codeword u h) ∙ low u m (encode-lt m P f u)

  in_rows : (u : ℕ) → u < 2 ^ length (systematic m P) → u < 2 ^ length P
  in_rows u h = rw (systematic-length m P) at h

  -- different messages have different codewords
  pub systematic-one : (u v : ℕ) → u < 2 ^ length P → v < 2 ^ length P → encode (systematic m P) u ≡ encode (systematic m P) v → u ≡ v
  systematic-one u v h k e = sym (message_part u h) ∙ ap (λ (x : ℕ). x / 2 ^ m) e ∙ message_part v k

  pub systematic-independent : Independent (systematic m P)
  systematic-independent u h e = sym (message_part u (in_rows u h)) ∙ ap (λ (x : ℕ). x / 2 ^ m) e ∙ zero-div (2 ^ m)

  pub systematic-inside : Inside (length P + m) (systematic m P)
  systematic-inside i h =
      let l : i < length P = rw (systematic-length m P) at h in
      rw (sym (row_message (systematic m P) i h), systematic-codeword (2 ^ i) (pow-lt l))
      (block_lt (pow-lt l) (encode-lt m P f (2 ^ i)))
    where
      block_lt : {a b : ℕ} → a < 2 ^ length P → b < 2 ^ m → a * 2 ^ m + b < 2 ^ (length P + m)
      block_lt {a} {b} h k =
          let l : suc a * 2 ^ m ≤ 2 ^ length P * 2 ^ m = mul-le-mul_right (2 ^ m) h in
          omega (arith, k, l, suc-mul a (2 ^ m), pow-add 2 (length P) m)

  -- a word is a codeword exactly when its check places are the sum of the rows of P that its message places select
  pub systematic-test : (w : ℕ) → w < 2 ^ (length P + m) → Codeword (systematic m P) w ↔ (encode P (w / 2 ^ m) ≡ w % 2 ^ m)
  systematic-test w h = (to, from)
    where
      to : Codeword (systematic m P) w → encode P (w / 2 ^ m) ≡ w % 2 ^ m
      to (u, k, e) =
          let l = in_rows u k in
          ap (encode P) (ap (λ (x : ℕ). x / 2 ^ m) e ∙ message_part u l) ∙ sym (ap (λ (x : ℕ). x % 2 ^ m) e ∙ check_part u l)

      from : encode P (w / 2 ^ m) ≡ w % 2 ^ m → Codeword (systematic m P) w
      from e =
          let l = shr_lt (length P) m h in (
            w / 2 ^ m,
            rw (systematic-length m P) l,
            sym (split w m) ∙ ap (λ (x : ℕ). w / 2 ^ m * 2 ^ m + x) (sym e) ∙ sym (systematic-codeword (w / 2 ^ m) l),
          )

  -- the message of a codeword is its message places
  pub systematic_message : (w : ℕ) → Codeword (systematic m P) w → IsMessage (systematic m P) w (w / 2 ^ m)
  systematic_message w (u, k, e) =
      let l = in_rows u k in
      let q : w / 2 ^ m ≡ u = ap (λ (x : ℕ). x / 2 ^ m) e ∙ message_part u l in
      record {
        below = rw q k;
        codeword = ap (encode (systematic m P)) q ∙ sym e;
        only = λ v h g. systematic-one v u (in_rows v h) l (g ∙ e) ∙ sym q;
      }

  -- it is one exactly when its syndrome is 0
  pub systematic-syndrome : (w : ℕ) → w < 2 ^ (length P + m) → Codeword (systematic m P) w ↔ (systematic_syndrome m P w ≡ 0)
  systematic-syndrome w h =
      let (to, from) = systematic-test w h in
      (λ c. ap (λ (x : ℕ). (w % 2 ^ m) ⊕ x) (to c) ∙ xor_self (w % 2 ^ m), λ e. from (sym (xor-eq (w % 2 ^ m) (encode P (w / 2 ^ m)) e)))

pub systematic-syndrome-xor : (m : ℕ) (P : List ℕ) (a b : ℕ) → systematic_syndrome m P (a ⊕ b) ≡ systematic_syndrome m P a ⊕ systematic_syndrome m P b
systematic-syndrome-xor m P a b =
    ap₂ ◌⊕◌ (xor_mod a b m) (ap (encode P) (xor_shr a b m) ∙ encode-xor P (a / 2 ^ m) (b / 2 ^ m))
    ∙ xor-four (a % 2 ^ m) (b % 2 ^ m) (encode P (a / 2 ^ m)) (encode P (b / 2 ^ m))

-- the syndrome of an error pattern given by its check places and its message places
pub pattern-syndrome : (m : ℕ) (P : List ℕ) (x y : ℕ) → x < 2 ^ m → systematic_syndrome m P (y * 2 ^ m + x) ≡ x ⊕ encode P y
pattern-syndrome m P x y h = ap₂ (λ (a b : ℕ). a ⊕ encode P b) (low y m h) (high y m h)
