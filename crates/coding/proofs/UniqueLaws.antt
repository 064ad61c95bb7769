-- A matrix has one reduced row echelon form: two lists of that shape with the same span are equal, and so are their pivots.
-- Assumes nothing.
use mathlib.Core.Path.{◌≡◌, refl, sym, ap, ap₂, ◌∙◌}
use mathlib.Core.Logic.{◌≢◌, ◌↔◌}
use mathlib.Core.List.{List, [], ◌∷◌}
use Prim.Native.Nat.{ℕ, zero, suc, ◌*◌, ◌/◌, ◌%◌, ◌≤◌, ◌<◌, suc-le-suc}
use native.Mathlib.Nat.{pow-suc, suc_inj}
use native.Mathlib.Decide.{dec_le}
use native.Mathlib.Omega.{arith}
use lib.ListN.{length, get_or}
use lib.Seq.{ext_get_or}
use Rattle.coding.specs.Word.{◌⊕◌, bit, parity}
use Rattle.coding.specs.Matrix.{sel, encode, Codeword, SameCode}
use Rattle.coding.specs.Reduced.{Leads, Echelon, ReducedForm}
use Rattle.coding.proofs.WordLaws.{half_lt, xor-eq, bit_zeroth, bit_of_zero, bit_xor}
use Rattle.coding.proofs.WeightLaws.{parity-pow}
use Rattle.coding.proofs.MatrixLaws.{encode_none, encode_in, codeword-xor, row_codeword}
use Rattle.coding.proofs.CheckLaws.{encode-place, column_unit}

-- the double of a message has a 0 at place 0
double-even : (u : ℕ) → 2 * u % 2 ≡ 0
double-even u = omega arith

-- and the message in the places behind it
double-half : (u : ℕ) → 2 * u / 2 ≡ u
double-half u = omega arith

-- a place where two words agree is 0 in their sum
bit_alike : (a b q : ℕ) → bit a q ≡ bit b q → bit (a ⊕ b) q ≡ 0
bit_alike a b q e = omega (arith, bit_xor a b q)

-- a word with a leftmost one is not zero
lead_nonzero : (w p : ℕ) → Leads w p → w ≢ 0
lead_nonzero w p L e = omega (arith, L.one, ap (λ (x : ℕ). bit x p) e ∙ bit_of_zero p)

module _ (A P : List ℕ) (E : Echelon A P) where
  -- at the pivot of row j, a sum of rows has place j of its message
  pub pivot_place : (u j : ℕ) → j < length A → bit (encode A u) (get_or P j 0) ≡ bit u j
  pivot_place u j h =
      encode-place A u (get_or P j 0)
      ∙ ap (parity u) (column_unit A j (get_or P j 0) h (λ i l ne. E.clear i j l h ne) (E.leads j h).one) ∙ parity-pow u j

  -- a codeword with a 0 at every pivot is 0
  pub codeword_none : (w : ℕ) → Codeword A w → ((j : ℕ) → j < length A → bit w (get_or P j 0) ≡ 0) → w ≡ 0
  codeword_none w (u, h, e) f = e ∙ encode_none A u (λ j l. ap (λ (c : ℕ). sel c (get_or A j 0)) (sym (pivot_place u j l) ∙ rw e at (f j l)))

module _ (a p : ℕ) (A P : List ℕ) (E : Echelon (a ∷ A) (p ∷ P)) where
  -- without its first row, the list keeps its shape
  tail_echelon : Echelon A P
  tail_echelon = record {
    count = suc_inj E.count;
    leads = λ i h. E.leads (suc i) (suc-le-suc h);
    rise = λ i j l h. E.rise (suc i) (suc j) (suc-le-suc l) (suc-le-suc h);
    clear = λ i j h k ne. E.clear (suc i) (suc j) (suc-le-suc h) (suc-le-suc k) (λ e. ne (suc_inj e));
  }

  -- no codeword has a one before the first pivot
  first_pivot : (w q : ℕ) → Codeword (a ∷ A) w → bit w q ≡ 1 → p ≤ q
  first_pivot w q (u, h, e) o = go (dec_le p q)
    where
      row : q < p → (i : ℕ) → i < length (a ∷ A) → bit (get_or (a ∷ A) i 0) q ≡ 0
      row l zero k = (E.leads 0 k).none_before q l
      row l (suc i) k = (E.leads (suc i) k).none_before q (omega (arith, E.rise 0 (suc i) (omega arith) k))

      sum : (x y : ℕ) → bit x q ≡ 0 → bit y q ≡ 0 → bit (x ⊕ y) q ≡ 0
      sum x y c d = bit_alike x y q (c ∙ sym d)

      go : Dec (p ≤ q) → p ≤ q
      go (yes l) = l
      go (no l) =
          let z : bit (encode (a ∷ A) u) q ≡ 0 = encode_in (λ x. bit x q ≡ 0) (bit_of_zero q) sum (a ∷ A) (row (omega arith)) u in
          absurd (omega (arith, ap (λ (x : ℕ). bit x q) e))

  -- the codewords of the other rows are the codewords with a 0 at the first pivot
  tail_codeword : (w : ℕ) → Codeword A w ↔ (Codeword (a ∷ A) w × (bit w p ≡ 0))
  tail_codeword w = (λ c. down c, λ c. up c.0 c.1)
    where
      down : Codeword A w → Codeword (a ∷ A) w × (bit w p ≡ 0)
      down (u, h, e) = (
        (2 * u, omega (arith, pow-suc 2 (length A)), lifted),
        ap (λ (x : ℕ). bit x p) lifted ∙ pivot_place (a ∷ A) (p ∷ P) E (2 * u) 0 (omega arith) ∙ bit_zeroth (2 * u) ∙ double-even u,
      )
        where
          lifted : w ≡ encode (a ∷ A) (2 * u)
          lifted = e ∙ sym (ap₂ (λ (c x : ℕ). sel c a ⊕ encode A x) (double-even u) (double-half u))

      up : Codeword (a ∷ A) w → bit w p ≡ 0 → Codeword A w
      up (u, h, e) z = (u / 2, half_lt (length A) h, e ∙ ap (λ (c : ℕ). sel c a ⊕ encode A (u / 2)) even)
        where
          even : u % 2 ≡ 0
          even = sym (bit_zeroth u) ∙ sym (pivot_place (a ∷ A) (p ∷ P) E u 0 (omega arith)) ∙ ap (λ (x : ℕ). bit x p) (sym e) ∙ z

-- two lists of that shape with the same span are equal, and so are their pivots
echelon_unique : (A B P Q : List ℕ) → Echelon A P → Echelon B Q → SameCode A B → (A ≡ B) × (P ≡ Q)
echelon_unique [] [] P Q E F s = (refl, ext_get_or 0 P Q (E.count ∙ sym F.count) (λ i h. absurd (omega (arith, E.count))))
echelon_unique [] (b ∷ B) P Q E F s =
    absurd (lead_nonzero b _ (F.leads 0 (omega arith)) ((s b).1 (row_codeword (b ∷ B) 0 (omega arith))).2)
echelon_unique (a ∷ A) [] P Q E F s =
    absurd (lead_nonzero a _ (E.leads 0 (omega arith)) ((s a).0 (row_codeword (a ∷ A) 0 (omega arith))).2)
echelon_unique (a ∷ A) (b ∷ B) [] Q E F s = absurd (omega arith)
echelon_unique (a ∷ A) (b ∷ B) (p ∷ P) [] E F s = absurd (omega arith)
echelon_unique (a ∷ A) (b ∷ B) (p ∷ P) (q ∷ Q) E F s =
    go (echelon_unique A B P Q (tail_echelon a p A P E) (tail_echelon b q B Q F) (λ w. (to w, from w)))
  where
    in_A : Codeword (a ∷ A) b
    in_A = (s b).1 (row_codeword (b ∷ B) 0 (omega arith))

    in_B : Codeword (b ∷ B) a
    in_B = (s a).0 (row_codeword (a ∷ A) 0 (omega arith))

    same : p ≡ q
    same =
        let l : p ≤ q = first_pivot a p A P E b q in_A (F.leads 0 (omega arith)).one in
        let m : q ≤ p = first_pivot b q B Q F a p in_B (E.leads 0 (omega arith)).one in
        omega arith

    to : (w : ℕ) → Codeword A w → Codeword B w
    to w c = let d = (tail_codeword a p A P E w).0 c in (tail_codeword b q B Q F w).1 ((s w).0 d.0, rw same at d.1)

    from : (w : ℕ) → Codeword B w → Codeword A w
    from w c = let d = (tail_codeword b q B Q F w).0 c in (tail_codeword a p A P E w).1 ((s w).1 d.0, rw same d.1)

    go : (A ≡ B) × (P ≡ Q) → (a ∷ A ≡ b ∷ B) × (p ∷ P ≡ q ∷ Q)
    go (e, f) = (ap₂ ◌∷◌ (xor-eq a b zeros) e, ap₂ ◌∷◌ same f)
      where
        tail : Codeword A (a ⊕ b)
        tail = (tail_codeword a p A P E (a ⊕ b)).1 (
          codeword-xor (a ∷ A) a b (row_codeword (a ∷ A) 0 (omega arith)) in_A,
          bit_alike a b p ((E.leads 0 (omega arith)).one ∙ sym (rw (← same) at (F.leads 0 (omega arith)).one)),
        )

        zeros : a ⊕ b ≡ 0
        zeros = codeword_none A P (tail_echelon a p A P E) (a ⊕ b) tail
            (λ j h. bit_alike a b (get_or P j 0)
            (E.clear 0 (suc j) (omega arith) (suc-le-suc h) (omega arith)
            ∙ sym (rw (← f) at (F.clear 0 (suc j) (omega arith) (suc-le-suc (rw e at h)) (omega arith)))))

-- 01, part 1: a matrix has one reduced row echelon form
pub reduced_form_unique : (given A B P Q : List ℕ) → ReducedForm given A P → ReducedForm given B Q → (A ≡ B) × (P ≡ Q)
reduced_form_unique given A B P Q X Y = echelon_unique A B P Q X.echelon Y.echelon
    (λ w. (λ c. (Y.same_span w).0 ((X.same_span w).1 c), λ c. (X.same_span w).0 ((Y.same_span w).1 c)))
