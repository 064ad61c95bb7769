-- Laws of the search by rising number of rows: row by row, then number by number, until no sum of more rows can be lighter.
use mathlib.Core.Path.{◌≡◌, refl, sym, ap, subst, ◌∙◌}
use mathlib.Core.Logic.{◌≢◌, ◌⊎◌, inl, inr}
use mathlib.Core.List.{List}
use mathlib.Core.Bool.{Bool, true, false, cond}
use Prim.Native.Nat.{ℕ, zero, suc, ◌+◌, ◌-◌, ◌^◌, ◌≤◌, ◌<◌, min}
use native.Mathlib.Decide.{dec_le}
use native.Mathlib.Nat.{pow-suc, le_refl, lt_of_lt_of_le}
use native.Mathlib.Numerals.{add-one}
use native.Mathlib.Omega.{arith}
use lib.Dec.{eqb}
use lib.ListN.{length, get_or, take}
use lib.Seq.{take-length, length-take-le}
use lib.Pow.{pow-lt, pow_mono}
use lib.Bits.{xor_comm, xor_zero_r}
use lib.Count.{ones-le}
use borrow.Author.Tests.{eq-eqb, eqb-true}
use Rattle.std.specs.List.{fold}
use Rattle.std.proofs.lemmas.List.Sums.{fold_more}
use Rattle.coding.specs.Word.{◌⊕◌, weight}
use Rattle.coding.specs.Matrix.{encode, Inside}
use Rattle.coding.specs.Reduced.{ReducedForm}
use Rattle.coding.specs.Weight.{dmin}
use Rattle.coding.proofs.WordLaws.{xor_assoc}
use Rattle.coding.proofs.WeightLaws.{weight-zero, weight_none, weight-pow}
use Rattle.coding.proofs.MatrixLaws.{encode-zero, encode-take, codeword-lt, encode_top, row_message, row_codeword}
use Rattle.coding.proofs.OrderLaws.{weight_top}
use Rattle.coding.proofs.DistanceLaws.{dmin-le, dmin_hit}
use Rattle.coding.proofs.PivotWeightLaws.{rows_weigh, echelon-independent, dmin_same}
use Rattle.words.specs.Accepted.{Accepted}
use Rattle.words.proofs.CodeLaws.{distance_is}
use Rattle.distance.specs.Inner.LeastSum.{LeastSum, of_weight, ReducedMatrix}
use Rattle.distance.specs.SmallestSum.{FewWeigh, SmallestSum}

-- a one at place p, above those of v, adds row p
row_added : (rows : List ℕ) (p v base : ℕ) → v < 2 ^ p → encode rows (2 ^ p + v) ⊕ base ≡ encode rows v ⊕ (base ⊕ get_or rows p 0)
row_added rows p v base h =
    let r = get_or rows p 0 in
    let a = encode rows v in
    ap (λ (x : ℕ). x ⊕ base) (encode_top rows p v h) ∙ xor_assoc a r base ∙ ap (λ (x : ℕ). a ⊕ x) (xor_comm r base)

-- the places of a message below p + 1: without place p, or with it
below : (p u : ℕ) → u < 2 ^ (p + 1) → (u < 2 ^ p) ⊎ ((v : ℕ) × (v < 2 ^ p) × (u ≡ 2 ^ p + v))
below p u h = go (dec_le (2 ^ p) u)
  where
    twice : 2 ^ (p + 1) ≡ 2 ^ p + 2 ^ p
    twice = ap (λ (x : ℕ). 2 ^ x) (add-one p) ∙ omega (arith, pow-suc 2 p)

    go : Dec (2 ^ p ≤ u) → (u < 2 ^ p) ⊎ ((v : ℕ) × (v < 2 ^ p) × (u ≡ 2 ^ p + v))
    go (yes l) = inr (u - 2 ^ p, omega (arith, twice), omega arith)
    go (no l) = inl (omega arith)

wider : (p u : ℕ) → u < 2 ^ p → u < 2 ^ (p + 1)
wider p u h = lt_of_lt_of_le h (pow_mono {i = p} {j = p + 1} (omega arith))

-- ---- sums of t rows: so few rows have none
pub least_start : (f : ℕ → ℕ) (rows : List ℕ) (m t base best : ℕ) → m < t → LeastSum f rows m t base best best
least_start f rows m t base best h = record {
  upper = omega arith;
  each = λ u l e. absurd (omega (arith, ones-le m u l));
  one = inl refl;
}

-- with row p there come those of t - 1 rows below it, each with row p added
pub least_next : (f : ℕ → ℕ) (rows : List ℕ) (p t base best least r : ℕ) → 1 < t → LeastSum f rows p t base best least
    → LeastSum f rows p (t - 1) (base ⊕ get_or rows p 0) least r → LeastSum f rows (p + 1) t base best r
least_next f rows p t base best least r many L R = record {
  upper = omega (arith, L.upper, R.upper);
  each = λ u h e. go u e (below p u h);
  one = met R.one L.one;
}
  where
    go : (u : ℕ) → weight u ≡ t → (u < 2 ^ p) ⊎ ((v : ℕ) × (v < 2 ^ p) × (u ≡ 2 ^ p + v)) → r ≤ f (encode rows u ⊕ base)
    go u e (inl l) = omega (arith, R.upper, L.each u l e)
    go u e (inr (v, l, s)) =
        let w : weight v ≡ t - 1 = omega (arith, weight_top p v l, ap weight s, e) in
        rw (s, row_added rows p v base l) (R.each v l w)

    met : (r ≡ least) ⊎ ((v : ℕ) × (v < 2 ^ p) × (weight v ≡ t - 1) × (r ≡ f (encode rows v ⊕ (base ⊕ get_or rows p 0))))
        → (least ≡ best) ⊎ ((u : ℕ) × (u < 2 ^ p) × (weight u ≡ t) × (least ≡ f (encode rows u ⊕ base)))
        → (r ≡ best) ⊎ ((u : ℕ) × (u < 2 ^ (p + 1)) × (weight u ≡ t) × (r ≡ f (encode rows u ⊕ base)))
    met (inl e) (inl f) = inl (e ∙ f)
    met (inl e) (inr (u, l, w, f)) = inr (u, wider p u l, w, e ∙ f)
    met (inr (v, l, w, e)) _ =
        inr
        (2 ^ p + v, omega (arith, ap (λ (x : ℕ). 2 ^ x) (add-one p), pow-suc 2 p), omega (arith, weight_top p v l, w), e ∙ ap f (sym (row_added rows p v base l)))

-- ---- single rows
pub least_row_start : (f : ℕ → ℕ) (rows : List ℕ) (base best : ℕ) → LeastSum f rows 0 1 base best best
least_row_start f rows base best = least_start f rows 0 1 base best (omega arith)

pub least_row_next : (f : ℕ → ℕ) (rows : List ℕ) (p base best least r : ℕ) → p < length rows → LeastSum f rows p 1 base best least
    → r ≡ min least (f (get_or rows p 0 ⊕ base)) → LeastSum f rows (p + 1) 1 base best r
least_row_next f rows p base best least r h L e =
    least_next_row (λ u l w. go u w (below p u l))
  where
    row : encode rows (2 ^ p) ≡ get_or rows p 0
    row = row_message rows p h

    go : (u : ℕ) → weight u ≡ 1 → (u < 2 ^ p) ⊎ ((v : ℕ) × (v < 2 ^ p) × (u ≡ 2 ^ p + v)) → r ≤ f (encode rows u ⊕ base)
    go u w (inl l) = omega (arith, e, L.each u l w)
    go u w (inr (v, l, s)) =
        let z : v ≡ 0 = weight_none v (omega (arith, weight_top p v l, ap weight s, w)) in
        let u-is : u ≡ 2 ^ p = omega (arith, s, z) in
        rw (u-is, row) (omega (arith, e))

    met : (least ≡ best) ⊎ ((u : ℕ) × (u < 2 ^ p) × (weight u ≡ 1) × (least ≡ f (encode rows u ⊕ base))) → Dec (least ≤ f (get_or rows p 0 ⊕ base))
        → (r ≡ best) ⊎ ((u : ℕ) × (u < 2 ^ (p + 1)) × (weight u ≡ 1) × (r ≡ f (encode rows u ⊕ base)))
    met (inl f) (yes l) = inl (omega (arith, e, f))
    met (inr (u, b, w, f)) (yes l) = inr (u, wider p u b, w, omega (arith, e, f))
    met _ (no l) = inr (2 ^ p, pow-lt (omega arith), weight-pow p, omega (arith, e, ap (λ (x : ℕ). f (x ⊕ base)) row))

    least_next_row : ((u : ℕ) → u < 2 ^ (p + 1) → weight u ≡ 1 → r ≤ f (encode rows u ⊕ base)) → LeastSum f rows (p + 1) 1 base best r
    least_next_row all = record {
      upper = omega (arith, e, L.upper);
      each = all;
      one = met L.one (dec_le least (f (get_or rows p 0 ⊕ base)));
    }

-- each row in turn
pub least_rows : (f : ℕ → ℕ) (rows : List ℕ) (base best : ℕ)
    → LeastSum f rows (length rows) 1 base best (fold (λ least row. min least (f (row ⊕ base))) best rows)
least_rows f rows base best =
    subst (λ (l : List ℕ). LeastSum f rows (length rows) 1 base best (fold lesser best l)) (take-length rows) (go (length rows) (le_refl (length rows)))
  where
    lesser : ℕ → ℕ → ℕ
    lesser least row = min least (f (row ⊕ base))

    go : (p : ℕ) → p ≤ length rows → LeastSum f rows p 1 base best (fold lesser best (take p rows))
    go zero h = least_row_start f rows base best
    go (suc p) h =
        subst (λ (q : ℕ). LeastSum f rows q 1 base best (fold lesser best (take q rows))) (add-one p)
        (least_row_next f rows p base best (fold lesser best (take p rows)) (fold lesser best (take (p + 1) rows)) h (go p (omega arith))
        (fold_more lesser best rows p 0 h))

-- the sums of the first p rows
pub least_first : (f : ℕ → ℕ) (rows : List ℕ) (p t base best r : ℕ) → p ≤ length rows → LeastSum f (take p rows) (length (take p rows)) t base best r
    → LeastSum f rows p t base best r
least_first f rows p t base best r h L = same (subst (λ (m : ℕ). LeastSum f (take p rows) m t base best r) (length-take-le p rows h) L)
  where
    same : LeastSum f (take p rows) p t base best r → LeastSum f rows p t base best r
    same S = record {
      upper = S.upper;
      each = λ u l w. rw (encode-take rows p u l) at (S.each u l w);
      one = met S.one;
    }
      where
        met : (r ≡ best) ⊎ ((u : ℕ) × (u < 2 ^ p) × (weight u ≡ t) × (r ≡ f (encode (take p rows) u ⊕ base)))
            → (r ≡ best) ⊎ ((u : ℕ) × (u < 2 ^ p) × (weight u ≡ t) × (r ≡ f (encode rows u ⊕ base)))
        met (inl e) = inl e
        met (inr (u, l, w, e)) = inr (u, l, w, e ∙ ap (λ (x : ℕ). f (x ⊕ base)) (encode-take rows p u l))

-- ---- number by number: of the values at sums of fewer than t rows best is the least, and none where no sum has been met

pub record Found (f : ℕ → ℕ) (none : ℕ) (rows : List ℕ) (t best : ℕ) : Type 0 where
  pub least : (u : ℕ) → u < 2 ^ length rows → u ≢ 0 → weight u < t → best ≤ f (encode rows u)
  pub one : (best ≡ none) ⊎ ((u : ℕ) × (u < 2 ^ length rows) × (u ≢ 0) × (weight u < t) × (best ≡ f (encode rows u)))

pub found_start : (f : ℕ → ℕ) (none : ℕ) (rows : List ℕ) → Found f none rows 1 none
found_start f none rows = record { least = λ u h ne l. absurd (ne (weight_none u (omega arith))); one = inl refl }

pub found_next : (f : ℕ → ℕ) (none : ℕ) (rows : List ℕ) (t best r : ℕ) → 1 ≤ t → Found f none rows t best
    → LeastSum f rows (length rows) t 0 best r → Found f none rows (t + 1) r
found_next f none rows t best r some F L = record { least = λ u h ne l. go u h ne l (dec_le (suc (weight u)) t); one = met L.one F.one }
  where
    alone : (u : ℕ) → f (encode rows u ⊕ 0) ≡ f (encode rows u)
    alone u = ap f (xor_zero_r (encode rows u))

    go : (u : ℕ) → u < 2 ^ length rows → u ≢ 0 → weight u < t + 1 → Dec (weight u < t) → r ≤ f (encode rows u)
    go u h ne l (yes k) = omega (arith, L.upper, F.least u h ne k)
    go u h ne l (no k) = let e : weight u ≡ t = omega arith in omega (arith, L.each u h e, alone u)

    met : (r ≡ best) ⊎ ((u : ℕ) × (u < 2 ^ length rows) × (weight u ≡ t) × (r ≡ f (encode rows u ⊕ 0)))
        → (best ≡ none) ⊎ ((u : ℕ) × (u < 2 ^ length rows) × (u ≢ 0) × (weight u < t) × (best ≡ f (encode rows u)))
        → (r ≡ none) ⊎ ((u : ℕ) × (u < 2 ^ length rows) × (u ≢ 0) × (weight u < t + 1) × (r ≡ f (encode rows u)))
    met (inl e) (inl f) = inl (e ∙ f)
    met (inl e) (inr (u, h, ne, l, q)) = inr (u, h, ne, omega arith, e ∙ q)
    met (inr (u, h, w, e)) _ = inr (u, h, (λ z. absurd (omega (arith, w, ap weight z, weight-zero))), omega arith, e ∙ alone u)

-- no sum of t rows or more is lighter than t, and there are none of more than all rows: best is the minimum distance
pub found_end : (rows : List ℕ) (t best : ℕ) → ReducedMatrix rows → Found weight 33 rows t best → (length rows < t) ⊎ (best ≤ t) → best ≡ dmin rows
found_end rows t best M F stop = ends F.one
  where
    A : Accepted M.n M.k rows
    A = M.accepted

    bound : (1 ≤ dmin rows) × (dmin rows ≤ 32)
    bound = omega (arith, (distance_is M.n M.k rows A).bounds, A.range.places)

    lower : (u : ℕ) → u < 2 ^ length rows → u ≢ 0 → Dec (weight u < t) → (length rows < t) ⊎ (best ≤ t) → best ≤ weight (encode rows u)
    lower u h ne (yes k) s = F.least u h ne k
    lower u h ne (no k) (inl s) = absurd (omega (arith, ones-le (length rows) u h))
    lower u h ne (no k) (inr s) = omega (arith, rows_weigh rows M.pivots M.echelon u h)

    below-dmin : best ≤ dmin rows
    below-dmin =
        let (u, h, ne, e) = dmin_hit rows (omega (arith, A.range.rows, A.count)) in
        omega (arith, lower u h ne (dec_le (suc (weight u)) t) stop, e)

    ends : (best ≡ 33) ⊎ ((u : ℕ) × (u < 2 ^ length rows) × (u ≢ 0) × (weight u < t) × (best ≡ weight (encode rows u))) → best ≡ dmin rows
    ends (inl e) = absurd (omega (arith, below-dmin, bound))
    ends (inr (u, h, ne, l, e)) = omega (arith, below-dmin, dmin-le rows u h ne, e)

-- all sums of at most w rows have been looked at: best is the smallest of those that weigh w
pub smallest_end : (rows : List ℕ) (w t best : ℕ) → t ≤ w + 1 → best ≤ 2 ^ 32 - 1 → Found (of_weight w) (2 ^ 32 - 1) rows t best
    → min (length rows) w < t → SmallestSum rows w best
smallest_end rows w t best upto small F stop = record { upper = small; each = lower; one = met F.one }
  where
    lower : (u : ℕ) → FewWeigh rows w u → best ≤ encode rows u
    lower u S =
        let is : of_weight w (encode rows u) ≡ encode rows u
        = ap (λ (b : Bool). cond b (encode rows u) (2 ^ 32 - 1)) (eq-eqb (weight (encode rows u)) w S.weighs) in
        let few : weight u < t = omega (arith, stop, ones-le (length rows) u S.message, S.few) in
        omega (arith, F.least u S.message S.some few, is)

    met : (best ≡ 2 ^ 32 - 1) ⊎ ((u : ℕ) × (u < 2 ^ length rows) × (u ≢ 0) × (weight u < t) × (best ≡ of_weight w (encode rows u)))
        → (best ≡ 2 ^ 32 - 1) ⊎ ((u : ℕ) × FewWeigh rows w u × (best ≡ encode rows u))
    met (inl e) = inl e
    met (inr (u, h, ne, l, e)) = go (eqb (weight (encode rows u)) w) refl
      where
        go : (b : Bool) → eqb (weight (encode rows u)) w ≡ b → (best ≡ 2 ^ 32 - 1) ⊎ ((u : ℕ) × FewWeigh rows w u × (best ≡ encode rows u))
        go true q =
            inr (
              u,
              record { message = h; some = ne; few = omega arith; weighs = eqb-true (weight (encode rows u)) w q },
              e ∙ ap (λ (b : Bool). cond b (encode rows u) (2 ^ 32 - 1)) q,
            )
        go false q = inl (e ∙ ap (λ (b : Bool). cond b (encode rows u) (2 ^ 32 - 1)) q)

-- of reduced rows every sum that weighs w is one of at most w rows
pub reduced_few : (rows : List ℕ) (w u : ℕ) → ReducedMatrix rows → 1 ≤ w → u < 2 ^ length rows → weight (encode rows u) ≡ w → FewWeigh rows w u
reduced_few rows w u M some h e = record {
  message = h;
  some = λ z. absurd (omega (arith, e, ap (λ (x : ℕ). weight (encode rows x)) z, ap weight (encode-zero rows), weight-zero));
  few = omega (arith, rows_weigh rows M.pivots M.echelon u h);
  weighs = e;
}

-- ---- the reduced rows of an accepted matrix
module _ (n k : ℕ) (rows : List ℕ) (A : Accepted n k rows) (R : List ℕ) (ps : List ℕ) (F : ReducedForm rows R ps) (size : length R ≡ k) where
  reduced_inside : Inside n R
  reduced_inside i h = codeword-lt n rows A.inside (get_or R i 0) ((F.same_span (get_or R i 0)).1 (row_codeword R i h))

  pub reduced_matrix : ReducedMatrix R
  reduced_matrix = record {
    n = n;
    k = k;
    accepted = record { range = A.range; count = size; inside = reduced_inside; independent = echelon-independent R ps F.echelon };
    pivots = ps;
    echelon = F.echelon;
  }

  -- they have its minimum distance
  pub dmin_reduced : dmin R ≡ dmin rows
  dmin_reduced =
      sym (dmin_same n rows R A.inside reduced_inside A.independent (echelon-independent R ps F.echelon) (omega (arith, A.range.rows, A.count))
      (omega (arith, A.range.rows, size)) F.same_span)
