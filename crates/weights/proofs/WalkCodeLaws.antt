-- What the walk over all codewords would find, from the weight counts and the smallest sum of reduced rows of the least weight.
use mathlib.Core.Path.{◌≡◌, refl, sym, ap, ◌∙◌}
use mathlib.Core.Logic.{◌⊎◌, inl, inr}
use mathlib.Core.List.{List}
use Prim.Native.Nat.{ℕ, ◌-◌, ◌^◌, ◌≤◌, ◌<◌}
use native.Mathlib.Nat.{lt_of_lt_of_le}
use native.Mathlib.Omega.{arith}
use lib.Dec.{eqb}
use lib.ListN.{length, get_or}
use lib.Pow.{pow_mono}
use borrow.Author.Tests.{eqb-true}
use Rattle.coding.specs.Word.{weight}
use Rattle.coding.specs.Matrix.{encode}
use Rattle.coding.specs.Reduced.{ReducedForm}
use Rattle.coding.specs.Reduce.{reduced_rows, pivots}
use Rattle.coding.specs.Weight.{count, weight_count}
use Rattle.coding.proofs.MatrixLaws.{encode-lt}
use Rattle.coding.proofs.EchelonLaws.{reduced_rows_form}
use Rattle.coding.proofs.CountLaws.{count-found}
use Rattle.coding.proofs.WeightCountLaws.{weight_count_messages}
use Rattle.words.specs.Accepted.{Accepted}
use Rattle.words.proofs.CodeLaws.{rows_are}
use Rattle.walk.specs.Walked.{least_of, some_least, SmallestMet, Walked}
use Rattle.walk.specs.declared.walk.Lightest.{Lightest}
use Rattle.std.specs.Prelude.{Option, Some, None, MatchOption}
use Rattle.std.specs.Option.{IsSomeAnd}
use Rattle.distance.specs.Inner.LeastSum.{ReducedMatrix}
use Rattle.distance.specs.SmallestSum.{FewWeigh, SmallestSum}
use Rattle.weights.specs.Inner.Overlap.{slots}
use Rattle.walk.proofs.BlockLaws.{some_at, some_least_is}
use Rattle.weights.proofs.WeightSlotLaws.{slots_long, slots_at}
use Rattle.distance.proofs.LeastSumLaws.{reduced_matrix, reduced_few}

module _ (n k : ℕ) (rows : List ℕ) (A : Accepted n k rows) where
  form : ReducedForm rows (reduced_rows n rows) (pivots n rows)
  form = reduced_rows_form n rows A.inside

  pub matrix : ReducedMatrix (reduced_rows n rows)
  matrix = reduced_matrix n k rows A (reduced_rows n rows) (pivots n rows) form (rows_are n k rows A)

  -- the smallest sum of reduced rows that weighs l is the smallest such codeword, where there is one
  smallest_met : (l x u : ℕ) → 1 ≤ l → u < 2 ^ length rows → weight (encode rows u) ≡ l → SmallestSum (reduced_rows n rows) l x
      → SmallestMet rows (2 ^ length rows) l x
  smallest_met l x u some h e S = ends S.one
    where
      below : (v : ℕ) → v < 2 ^ length rows → weight (encode rows v) ≡ l → x ≤ encode rows v
      below v g q =
          let (t, b, s) = (form.same_span (encode rows v)).0 (v, g, refl) in
          rw s (S.each t (reduced_few (reduced_rows n rows) l t matrix some b (ap weight (sym s) ∙ q)))

      small : encode rows u < 2 ^ 32
      small = lt_of_lt_of_le (encode-lt n rows A.inside u) (pow_mono {i = n} {j = 32} A.range.places.1)

      ends : (x ≡ 2 ^ 32 - 1) ⊎ ((v : ℕ) × FewWeigh (reduced_rows n rows) l v × (x ≡ encode (reduced_rows n rows) v))
          → SmallestMet rows (2 ^ length rows) l x
      ends (inl q) =
          let s : x ≡ encode rows u = omega (arith, below u h e, small) in
          record { met = (u, h, s); weighs = ap weight s ∙ e; smallest = below }
      ends (inr (v, f, q)) =
          let (t, g, s) = (form.same_span (encode (reduced_rows n rows) v)).1 (v, f.message, refl) in
          record { met = (t, g, q ∙ s); weighs = ap weight q ∙ f.weighs; smallest = below }

  module _ (counts : List ℕ) (e : counts ≡ slots (weight_count n rows)) where
    at : (j : ℕ) → j < 33 → get_or counts j 0 ≡ count (λ u. eqb (weight (encode rows u)) j) (2 ^ length rows)
    at j h =
        ap (λ (c : List ℕ). get_or c j 0) e ∙ slots_at (weight_count n rows) j h ∙ weight_count_messages n rows A.inside A.independent j

    -- the smallest sum of the least weight counted is the lightest codeword
    held : (l x : ℕ) → l ≡ least_of counts → l < 33 → SmallestSum (reduced_rows n rows) l x → SmallestMet rows (2 ^ length rows) l x
    held l x q h S =
        let some = some_at counts (rw q at h) in
        let (u, b, t) = count-found (λ u. eqb (weight (encode rows u)) l) (2 ^ length rows)
        (omega (arith, at l h, ap (λ (x : ℕ). get_or counts x 0) q, some)) in
        smallest_met l x u (omega (arith, q)) b (eqb-true (weight (encode rows u)) l t) S

    pub code_walked : (o : Option ℕ) → o ≡ some_least counts → (r : Option Lightest) {Q : ℕ → Lightest → Type 0}
        → MatchOption o (r ≡ None) (λ l. IsSomeAnd r (Q l)) → ((l : ℕ) (h : Lightest) → Q l h → (h.weight ≡ l) × SmallestSum (reduced_rows n rows) l h.word)
        → Walked rows (2 ^ length rows) (record { counts = counts; lightest = r })
    code_walked None q None c f = record { size = ap length e ∙ slots_long _; counts = at; least = q; lightest = tt }
    code_walked None q (Some h) c f = absurd cc
    code_walked (Some l) q None c f = absurd c
    code_walked (Some l) q (Some h) c f =
        let (w, S) = f l h c in
        let (is, few) = some_least_is counts l q in
        record { size = ap length e ∙ slots_long _; counts = at; least = ap Some w ∙ q; lightest = rw w (held l h.word is few S) }
