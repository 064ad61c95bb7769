-- Laws of a finished walk over an accepted matrix: its counts are the weight counts, its least weight is the minimum distance, and the
-- word it holds is the lightest codeword.
use mathlib.Core.Path.{◌≡◌, refl, sym, ap, ap₂, ◌∙◌}
use Rattle.std.specs.Prelude.{Some}
use mathlib.Core.Logic.{◌≢◌}
use mathlib.Core.List.{List}
use Prim.Native.Nat.{ℕ, suc, ◌+◌, ◌-◌, ◌^◌, ◌≤◌, ◌<◌}
use native.Mathlib.Decide.{dec_le}
use native.Mathlib.Omega.{arith}
use lib.Dec.{eqb}
use lib.ListN.{length, get_or, take, length-append, length-replicate, get_or-replicate, get_or-append}
use lib.Seq.{ext_get_or, get_or-append-add, take_all}
use lib.Count.{ones-le}
use borrow.Author.Tests.{eq-eqb, ne_eqb}
use Rattle.coding.specs.Lists.{zeros, padded}
use Rattle.coding.specs.Word.{weight}
use Rattle.coding.specs.Matrix.{encode}
use Rattle.coding.specs.Weight.{count, weight_count, weight_counts, dmin, MinimumDistance, lightest_codeword, Lightest}
use Rattle.coding.proofs.WeightLaws.{weight-zero}
use Rattle.coding.proofs.MatrixLaws.{encode-lt}
use Rattle.coding.proofs.ListLaws.{length-tabulate, get_d_tabulate}
use Rattle.coding.proofs.CountLaws.{count_none, count_some}
use Rattle.coding.proofs.LightestCodewordLaws.{lightest_only}
use Rattle.coding.proofs.WeightCountLaws.{weight_count_messages}
use Rattle.words.specs.Limits.{max_rows}
use Rattle.words.specs.Accepted.{Accepted}
use Rattle.words.proofs.CodeLaws.{distance_is}
use Rattle.walk.specs.Walked.{least_of, SmallestMet, Walked}
use Rattle.walk.specs.declared.walk.Walk.{Walk}
use Rattle.walk.proofs.BlockLaws.{least-found, held_is}

-- no more rows than a matrix may have are all walked
pub walked_all : {rows : List ℕ} {w : Walk} → length rows ≤ max_rows → Walked (take max_rows rows) (2 ^ length (take max_rows rows)) w
    → Walked rows (2 ^ length rows) w
walked_all {rows} {w} h W = rw (take_all max_rows rows h) at W

module _ (n k : ℕ) (rows : List ℕ) (A : Accepted n k rows) (w : Walk) (W : Walked rows (2 ^ length rows) w) where
  D : MinimumDistance n rows (dmin rows)
  D = distance_is n k rows A

  -- no codeword of n places weighs more than n
  beyond : (j : ℕ) → n < j → count (λ u. eqb (weight (encode rows u)) j) (2 ^ length rows) ≡ 0
  beyond j h =
      count_none (λ u. eqb (weight (encode rows u)) j) (2 ^ length rows)
      (λ u l. ne_eqb (weight (encode rows u)) j (λ e. absurd (omega (arith, ones-le n (encode rows u) (encode-lt n rows A.inside u), e))))

  count_at : (j : ℕ) → j < 33 → get_or (padded 33 (weight_counts n rows)) j 0 ≡ get_or w.counts j 0
  count_at j h = go (dec_le j n)
    where
      long : length (weight_counts n rows) ≡ suc n
      long = length-tabulate (weight_count n rows) (suc n)

      go : Dec (j ≤ n) → get_or (padded 33 (weight_counts n rows)) j 0 ≡ get_or w.counts j 0
      go (yes l) =
          get_or-append (weight_counts n rows) (zeros (33 - length (weight_counts n rows))) 0 j (omega (arith, long))
          ∙ get_d_tabulate (weight_count n rows) (suc n) j (omega arith)
          ∙ weight_count_messages n rows A.inside A.independent j ∙ sym (W.counts j h)
      go (no l) =
          let i = j - length (weight_counts n rows) in
          let e : j ≡ length (weight_counts n rows) + i = omega (arith, long) in
          ap (λ (x : ℕ). get_or (padded 33 (weight_counts n rows)) x 0) e
          ∙ get_or-append-add (weight_counts n rows) (zeros (33 - length (weight_counts n rows))) i 0
          ∙ get_or-replicate (33 - length (weight_counts n rows)) i 0 0 (omega (arith, long, A.range.places))
          ∙ sym (W.counts j h ∙ beyond j (omega arith))

  pub counts_are : w.counts ≡ padded 33 (weight_counts n rows)
  counts_are =
      let long : length (weight_counts n rows) ≡ suc n = length-tabulate (weight_count n rows) (suc n) in
      let size : length (padded 33 (weight_counts n rows)) ≡ 33
      = length-append (weight_counts n rows) (zeros (33 - length (weight_counts n rows)))
      ∙ ap (λ (x : ℕ). length (weight_counts n rows) + x) (length-replicate (33 - length (weight_counts n rows)) 0) ∙ room long in
      ext_get_or 0 w.counts (padded 33 (weight_counts n rows)) (W.size ∙ sym size) (λ j h. sym (count_at j (rw W.size at h)))
    where
      room : length (weight_counts n rows) ≡ suc n → length (weight_counts n rows) + (33 - length (weight_counts n rows)) ≡ 33
      room e = omega (arith, A.range.places)

  -- the least weight counted is the minimum distance
  least_is : least_of w.counts ≡ dmin rows
  least_is =
      sym (least-found w.counts (dmin rows) D.bounds.0 (omega (arith, D.bounds, A.range.places)) lighter (λ h. some h))
    where
      lighter : (i : ℕ) → 1 ≤ i → i < dmin rows → get_or w.counts i 0 ≡ 0
      lighter i h l =
          W.counts i (omega (arith, D.bounds, A.range.places))
          ∙ count_none (λ u. eqb (weight (encode rows u)) i) (2 ^ length rows)
          (λ u k. ne_eqb (weight (encode rows u)) i (λ e.
          absurd (omega (arith, e, D.least (encode rows u) (u, k, refl) (λ z. nonzero u e z)))))
        where
          nonzero : (u : ℕ) → weight (encode rows u) ≡ i → encode rows u ≡ 0 → ⊥
          nonzero u e z = omega (arith, sym e ∙ ap weight z ∙ weight-zero)

      some : dmin rows < 33 → get_or w.counts (dmin rows) 0 ≢ 0
      some h z =
          let (x, (u, k, e), ne, q) = D.attained in
          let t : weight (encode rows u) ≡ dmin rows = ap weight (sym e) ∙ q in
          omega (arith, W.counts (dmin rows) h, z, count_some (λ u. eqb (weight (encode rows u)) (dmin rows)) (2 ^ length rows) u k (eq-eqb _ _ t))

  -- the word held is the smallest of the nonzero codewords of that weight
  smallest_lightest : (x : ℕ) → SmallestMet rows (2 ^ length rows) (least_of w.counts) x → Lightest rows x
  smallest_lightest x H = record {
    codeword = H.met;
    nonzero = λ z. omega (arith, sym H.weighs ∙ ap weight z ∙ weight-zero, least_is, D.bounds);
    weighs = H.weighs ∙ least_is;
    smallest = λ v (u, h, e) ne q. rw e (H.smallest u h (ap weight (sym e) ∙ q ∙ sym least_is));
  }

  pub lightest_is : w.lightest ≡ Some (record { weight = dmin rows; word = lightest_codeword n rows })
  lightest_is =
      let (x, is, H) = held_is rows (2 ^ length rows) w W (omega (arith, least_is, D.bounds, A.range.places)) in
      is ∙ ap₂ (λ (l x : ℕ). Some (record { weight = l; word = x })) least_is (lightest_only n rows A.inside D x (smallest_lightest x H))
