-- Laws of the elimination row by row: its table after i rows is the reduced form of the first i, it ends at the first row that is a
-- sum of earlier ones, and there are as many pivots as independent rows. Assumes nothing.
use mathlib.Core.Path.{◌≡◌, refl, sym, ap, ◌∙◌}
use mathlib.Core.Logic.{◌≢◌, ◌↔◌}
use mathlib.Core.List.{List, [], ◌∷◌, ◌++◌}
use Prim.Native.Nat.{ℕ, zero, suc, ◌+◌, ◌^◌, ◌≤◌, ◌<◌}
use native.Mathlib.Nat.{le_refl, suc-ne-zero, suc_inj}
use native.Mathlib.Numerals.{add-one}
use native.Mathlib.Omega.{arith}
use lib.ListN.{length, get_or, take}
use lib.Seq.{take-suc, take-length}
use lib.Count.{count_trailing_zeros}
use borrow.Author.Count.{below_more}
use Rattle.coding.specs.Lists.{zeros}
use Rattle.coding.specs.Word.{bit}
use Rattle.coding.specs.Matrix.{Inside, Independent, Depends}
use Rattle.coding.specs.Reduce.{rest, put, add_to, reduce_from, reduce, frees_from}
use Rattle.coding.proofs.PivotLaws.{ByPlace, rest_pivot}
use Rattle.coding.proofs.ReduceLaws.{IsLead, is_lead, put-length, put_same, q_free, put-zero, rest_lt, whole}
use Rattle.coding.proofs.DependLaws.{inside_take, rest-depends, depends-rest, independent_none}

-- the rows one after the other
reduce-append : (n : ℕ) (B rs : List ℕ) (r : ℕ) → reduce_from n B (rs ++ (r ∷ [])) ≡ add_to n (reduce_from n B rs) (rest (reduce_from n B rs) r)
reduce-append n B [] r = refl
reduce-append n B (x ∷ rs) r = reduce-append n (add_to n B (rest B x)) rs r

pub reduce-take : (n : ℕ) (rs : List ℕ) (i : ℕ) → i < length rs
    → reduce n (take (suc i) rs) ≡ add_to n (reduce n (take i rs)) (rest (reduce n (take i rs)) (get_or rs i 0))
reduce-take n rs i h = ap (reduce n) (take-suc rs i 0 h) ∙ reduce-append n (zeros n) (take i rs) (get_or rs i 0)

-- ---- the number of free places

same_frees_from : (i j : ℕ) (A B : List ℕ) → length A ≡ length B → ((p : ℕ) → (get_or A p 0 ≡ 0) ↔ (get_or B p 0 ≡ 0))
    → length (frees_from i A) ≡ length (frees_from j B)
same_frees_from i j [] [] l f = refl
same_frees_from i j [] (b ∷ B) l f = absurd (omega arith)
same_frees_from i j (a ∷ A) [] l f = absurd (omega arith)
same_frees_from i j (zero ∷ A) (zero ∷ B) l f = ap suc (same_frees_from (suc i) (suc j) A B (suc_inj l) (λ p. f (suc p)))
same_frees_from i j (zero ∷ A) (suc b ∷ B) l f = absurd (suc-ne-zero b ((f 0).0 refl))
same_frees_from i j (suc a ∷ A) (zero ∷ B) l f = absurd (suc-ne-zero a ((f 0).1 refl))
same_frees_from i j (suc a ∷ A) (suc b ∷ B) l f = same_frees_from (suc i) (suc j) A B (suc_inj l) (λ p. f (suc p))

-- one place fewer
less_frees_from : (i j : ℕ) (A B : List ℕ) (q : ℕ) → length A ≡ length B → q < length B → get_or A q 0 ≢ 0 → get_or B q 0 ≡ 0
    → ((p : ℕ) → p ≢ q → (get_or A p 0 ≡ 0) ↔ (get_or B p 0 ≡ 0)) → suc (length (frees_from i A)) ≡ length (frees_from j B)
less_frees_from i j [] [] q l h a b f = absurd (omega arith)
less_frees_from i j [] (y ∷ B) q l h a b f = absurd (omega arith)
less_frees_from i j (x ∷ A) [] q l h a b f = absurd (omega arith)
less_frees_from i j (zero ∷ A) (y ∷ B) zero l h a b f = absurd (a refl)
less_frees_from i j (suc x ∷ A) (zero ∷ B) zero l h a b f = ap suc (same_frees_from (suc i) (suc j) A B (suc_inj l) (λ p. f (suc p) (suc-ne-zero p)))
less_frees_from i j (suc x ∷ A) (suc y ∷ B) zero l h a b f = absurd (suc-ne-zero y b)
less_frees_from i j (zero ∷ A) (zero ∷ B) (suc q) l h a b f =
    ap suc (less_frees_from (suc i) (suc j) A B q (suc_inj l) (omega arith) a b (λ p k. f (suc p) (λ e. k (suc_inj e))))
less_frees_from i j (zero ∷ A) (suc y ∷ B) (suc q) l h a b f = absurd (suc-ne-zero y ((f 0 (omega arith)).0 refl))
less_frees_from i j (suc x ∷ A) (zero ∷ B) (suc q) l h a b f = absurd (suc-ne-zero x ((f 0 (omega arith)).1 refl))
less_frees_from i j (suc x ∷ A) (suc y ∷ B) (suc q) l h a b f =
    less_frees_from (suc i) (suc j) A B q (suc_inj l) (omega arith) a b (λ p k. f (suc p) (λ e. k (suc_inj e)))

zeros-frees : (i n : ℕ) → length (frees_from i (zeros n)) ≡ n
zeros-frees i zero = refl
zeros-frees i (suc n) = ap suc (zeros-frees (suc i) n)

pub added_size : (n : ℕ) (B : List ℕ) → ByPlace n B → (r : ℕ) → r < 2 ^ n → rest B r ≢ 0
    → suc (length (frees_from 0 (add_to n B (rest B r)))) ≡ length (frees_from 0 B)
added_size n B R r h ne = go (rest B r) refl
  where
    go : (x : ℕ) → rest B r ≡ x → suc (length (frees_from 0 (add_to n B x))) ≡ length (frees_from 0 B)
    go zero e = absurd (ne e)
    go (suc y) e =
        let q = count_trailing_zeros n (suc y) in
        let hx : suc y < 2 ^ n = rw e at (rest_lt n B R r h) in
        let L : IsLead n (suc y) q = is_lead n (suc y) hx (suc-ne-zero y) in
        let f : (p : ℕ) → p < length B → get_or B p 0 ≢ 0 → bit (suc y) p ≡ 0 = λ p l k. rw e at (rest_pivot n B R r p l k) in
        let l : q < length B = rw R.size L.inside in
        less_frees_from 0 0 (put q B (suc y)) B q (put-length q B (suc y)) l (λ z. suc-ne-zero y (sym (put_same q B (suc y) l) ∙ z))
        (q_free n B R (suc y) q hx L f) (put-zero n B R (suc y) q hx L f)

module _ (n : ℕ) (rs : List ℕ) (fits : Inside n rs) (ind : Independent rs) where
  steps : (i : ℕ) → i ≤ length rs → i + length (frees_from 0 (reduce n (take i rs))) ≡ n
  steps zero h = omega (arith, zeros-frees 0 n)
  steps (suc i) h =
      let B = reduce n (take i rs) in
      let R : ByPlace n (reduce n (take i rs)) = (whole n (take i rs) (inside_take n rs fits i)).reduced in
      let e : suc (length (frees_from 0 (add_to n (reduce n (take i rs)) (rest (reduce n (take i rs)) (get_or rs i 0)))))
      ≡ length (frees_from 0 (reduce n (take i rs))) =
      added_size n (reduce n (take i rs)) R (get_or rs i 0) (fits i h) (λ z. independent_none rs ind i h (rest-depends n rs fits i z)) in
      rw (reduce-take n rs i h) (omega (arith, e, steps i (omega arith)))

  pub check-count : length rs + length (frees_from 0 (reduce n rs)) ≡ n
  check-count = rw (take-length rs) at (steps (length rs) (le_refl (length rs)))

-- ---- the loop over the rows, at row i, with the table that the earlier rows gave

add-put : (n : ℕ) (B : List ℕ) (x : ℕ) → x ≢ 0 → add_to n B x ≡ put (count_trailing_zeros n x) B x
add-put n B zero ne = absurd (ne refl)
add-put n B (suc y) ne = refl

module _ (n : ℕ) (rs : List ℕ) (fits : Inside n rs) (i : ℕ) (h : i < length rs) (B : List ℕ) (at_i : B ≡ reduce n (take i rs)) where
  -- the table has the shape by place
  pub table_shape : ByPlace n B
  table_shape = rw at_i (whole n (take i rs) (inside_take n rs fits i)).reduced

  module _ (x : ℕ) (left : x ≡ rest B (get_or rs i 0)) where
    is_rest : x ≡ rest (reduce n (take i rs)) (get_or rs i 0)
    is_rest = rw at_i at left

    x_lt : x < 2 ^ n
    x_lt = rw left (rest_lt n B table_shape (get_or rs i 0) (fits i h))

    pub row_ends : x ≡ 0 → Depends rs i
    row_ends z = rest-depends n rs fits i (sym is_rest ∙ z)

    pub row_goes : x ≢ 0 → Depends rs i → ⊥
    row_goes ne d = ne (is_rest ∙ depends-rest n rs fits i d)

    pub row_place : x ≢ 0 → count_trailing_zeros n x < n
    row_place ne = (is_lead n x x_lt ne).inside

    pub row_added : x ≢ 0 → put (count_trailing_zeros n x) B x ≡ reduce n (take (i + 1) rs)
    row_added ne =
        ap (λ (A : List ℕ). put (count_trailing_zeros n x) A x) at_i ∙ sym (add-put n (reduce n (take i rs)) x ne)
        ∙ ap (add_to n (reduce n (take i rs))) is_rest ∙ sym (reduce-take n rs i h) ∙ ap (λ (k : ℕ). reduce n (take k rs)) (sym (add-one i))

    pub none_more : x ≢ 0 → ((j : ℕ) → j < i → Depends rs j → ⊥) → (j : ℕ) → j < i + 1 → Depends rs j → ⊥
    none_more ne f = below_more (λ j. Depends rs j → ⊥) i f (row_goes ne)
