-- Laws of the code of an accepted matrix: how many rows, check places and syndromes it has, its messages, its minimum distance and its
-- leaders. Assumes nothing.
use mathlib.Core.Path.{◌≡◌, sym}
use mathlib.Core.Logic.{◌↔◌}
use mathlib.Core.List.{List}
use Prim.Native.Nat.{ℕ, ◌+◌, ◌-◌, ◌^◌, ◌≤◌, ◌<◌}
use native.Mathlib.Omega.{arith}
use lib.ListN.{length}
use Rattle.coding.specs.Lists.{padded}
use Rattle.coding.specs.Word.{weight}
use Rattle.coding.specs.Matrix.{encode, Codeword, message_of, IsMessage}
use Rattle.coding.specs.Reduce.{reduce, reduced_rows}
use Rattle.coding.specs.Check.{checks, frees, syndrome}
use Rattle.coding.specs.Weight.{dmin, MinimumDistance}
use Rattle.coding.specs.Leader.{syndrome_of, IsLeader, EveryLeader, leader_of}
use Rattle.coding.proofs.ReduceLaws.{whole}
use Rattle.coding.proofs.CheckRowLaws.{syndrome-codeword}
use Rattle.coding.proofs.EliminateLaws.{check-count}
use Rattle.coding.proofs.CompactLaws.{rows_count}
use Rattle.coding.proofs.TraceLaws.{Trace, trace_message, trace_is, message_back}
use Rattle.coding.proofs.WidthLaws.{syndrome-zeros}
use Rattle.coding.proofs.DistanceLaws.{minimum_distance}
use Rattle.coding.proofs.LeaderLaws.{leader_is, leader_light, syndrome_of-lt}
use Rattle.words.specs.Limits.{max_checks}
use Rattle.words.specs.Accepted.{Accepted}

module _ (n k : ℕ) (rows : List ℕ) (A : Accepted n k rows) where
  -- ---- places and rows

  -- the reduced rows have an entry for each place
  pub places_are : length (reduce n rows) ≡ n
  places_are = (whole n rows A.inside).reduced.size

  pub frees_are : length (frees n rows) + k ≡ n
  frees_are = omega (arith, check-count n rows A.inside A.independent, A.count)

  pub rows_are : length (reduced_rows n rows) ≡ k
  rows_are = omega (arith, rows_count 0 (reduce n rows), frees_are, places_are)

  checks_are : length (frees n rows) ≡ n - k
  checks_are = omega (arith, frees_are)

  -- ---- messages

  -- every codeword has exactly one message
  pub one_is : (w : ℕ) → Codeword rows w → IsMessage rows w (message_of rows w)
  one_is w (u, h, e) =
      let t : Trace rows u w = (h, sym e) in
      rw (trace_message rows A.independent u w t) (trace_is rows A.independent u w t)

  pub back_is : (u : ℕ) → u < 2 ^ k → message_of rows (encode rows u) ≡ u
  back_is u h = message_back rows A.independent u (rw A.count h)

  -- ---- the minimum distance

  pub distance_is : MinimumDistance n rows (dmin rows)
  distance_is = minimum_distance n rows A.inside A.independent (omega (arith, A.range.rows, A.count))

  -- ---- syndromes

  pub checks_pad : (w : ℕ) → syndrome (padded max_checks (checks n rows)) w ≡ syndrome_of n rows w
  checks_pad w = syndrome-zeros (checks n rows) (max_checks - length (checks n rows)) w

  -- 01, part 2: a word of n places is a codeword exactly when its syndrome is 0
  pub codeword-syndrome : (w : ℕ) → w < 2 ^ n → (syndrome (padded max_checks (checks n rows)) w ≡ 0) ↔ Codeword rows w
  codeword-syndrome w h = rw (checks_pad w) (syndrome-codeword n rows A.inside w h)

  pub syndrome-below : (w : ℕ) → syndrome_of n rows w < 2 ^ (n - k)
  syndrome-below w = rw checks_are at (syndrome_of-lt n rows A.inside w)

  -- ---- leaders

  -- every syndrome has a leader
  pub leader_at : (s : ℕ) → s < 2 ^ (n - k) → IsLeader n rows s (leader_of n rows s)
  leader_at s h = leader_is n rows A.inside s (rw checks_are h)

  -- no leader is heavier than n - k
  pub light : (s : ℕ) → s < 2 ^ (n - k) → weight (leader_of n rows s) ≤ n - k
  light s h = rw checks_are at (leader_light n rows A.inside s (rw checks_are h))

  pub every_leader : EveryLeader n rows (n - k)
  every_leader s h = (leader_of n rows s, leader_at s h, light s h)

  -- so that no count is 255
  pub leader_weight : (w : ℕ) → weight (leader_of n rows (syndrome_of n rows w)) ≤ n - k
  leader_weight w = light (syndrome_of n rows w) (syndrome-below w)
