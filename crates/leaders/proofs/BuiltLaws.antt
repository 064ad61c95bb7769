-- Laws of the list that is built: by any check rows the words fill it as their syndromes say, and by those of an accepted matrix it holds
-- the leader of every syndrome, and the number of words tried is the place of the last.
use mathlib.Core.Path.{◌≡◌, refl, sym, ap, ◌∙◌}
use mathlib.Core.List.{List}
use Prim.Native.Nat.{ℕ, suc, ◌-◌, ◌^◌, ◌≤◌, ◌<◌}
use native.Mathlib.Omega.{arith}
use lib.ListN.{length, get_or, take, length-replicate}
use lib.Seq.{ext_get_or}
use lib.Pow.{pow_pos}
use Rattle.coding.specs.Lists.{padded}
use Rattle.coding.specs.Matrix.{encode}
use Rattle.coding.specs.Check.{checks, frees, syndrome}
use Rattle.coding.specs.Leader.{syndrome_of, no_leader, leader_of}
use Rattle.coding.specs.Order.{order, fills, blanks}
use Rattle.coding.specs.Tries.{tried, LastLeader}
use Rattle.coding.proofs.ListLaws.{length-tabulate, get_d_tabulate}
use Rattle.coding.proofs.BuildLaws.{All, all_more, built, fills-length, fills_same, order_below, blank_all}
use Rattle.coding.proofs.TriesLaws.{tried_same, tried-zero, last_leader}
use Rattle.words.specs.Limits.{max_checks}
use Rattle.words.specs.Accepted.{Accepted}
use Rattle.words.proofs.CodeLaws.{frees_are}
use Rattle.parity.specs.CheckColumns.{columns_of}
use Rattle.leaders.specs.Leaders.{leaders_list, leaders_tried}
use Rattle.leaders.specs.LeadersBy.{filled_by, tried_by}
use Rattle.parity.proofs.CodeOfLaws.{first-checks}
use Rattle.parity.proofs.CheckColumnLaws.{columns-encode}

-- ---- by any check rows

-- the sums of columns are the syndromes
columns_agree : (hs : List ℕ) (n c : ℕ) → n ≤ 32 → All (λ w. encode (columns_of n hs) w ≡ syndrome hs w) (order n (suc c))
columns_agree hs n c h =
    all_more (λ w. w < 2 ^ n) (λ w. encode (columns_of n hs) w ≡ syndrome hs w) (λ w l. columns-encode n hs w h l) (order n (suc c))
    (order_below n (suc c))

pub filled_columns : (hs : List ℕ) (n c : ℕ) → n ≤ 32 → fills (encode (columns_of n hs)) (blanks (2 ^ c)) (order n (suc c)) ≡ filled_by hs n c
unfolding filled_by
filled_columns hs n c h = fills_same (encode (columns_of n hs)) (syndrome hs) (order n (suc c)) (blanks (2 ^ c)) (columns_agree hs n c h)

pub tried-columns : (hs : List ℕ) (n c : ℕ) → n ≤ 32 → tried (encode (columns_of n hs)) (blanks (2 ^ c)) (order n (suc c)) ≡ tried_by hs n c
unfolding tried_by
tried-columns hs n c h = tried_same (encode (columns_of n hs)) (syndrome hs) (order n (suc c)) (blanks (2 ^ c)) (columns_agree hs n c h)

-- the zero word at least is tried
pub tried_some : (hs : List ℕ) (n c : ℕ) → 1 ≤ tried_by hs n c
unfolding tried_by
tried_some hs n c = tried-zero (syndrome hs) (blanks (2 ^ c)) n c (rw (blank_all (2 ^ c)) (pow_pos c))

-- ---- of an accepted matrix

module _ (n k : ℕ) (rows : List ℕ) (A : Accepted n k rows) where
  checks_are : length (frees n rows) ≡ n - k
  checks_are = omega (arith, frees_are n k rows A)

  -- the check rows of the matrix are the first ones of the list
  rows_of : take (n - k) (padded max_checks (checks n rows)) ≡ checks n rows
  rows_of = first-checks n k rows A (padded max_checks (checks n rows)) refl

  few : length (frees n rows) < 32
  few = rw checks_are (omega (arith, A.range.checks))

  pub leaders_long : length (leaders_list n k rows) ≡ 2 ^ (n - k)
  leaders_long = length-tabulate (leader_of n rows) (2 ^ (n - k))

  pub leaders_are : filled_by (take (n - k) (padded max_checks (checks n rows))) n (n - k) ≡ leaders_list n k rows
  unfolding filled_by
  leaders_are =
      ap (λ (hs : List ℕ). filled_by hs n (n - k)) rows_of
      ∙ ext_get_or 0 (fills (syndrome_of n rows) (blanks (2 ^ (n - k))) (order n (suc (n - k)))) (leaders_list n k rows) (long ∙ sym leaders_long)
      (λ s h. entry s (rw long at h))
    where
      long : length (fills (syndrome_of n rows) (blanks (2 ^ (n - k))) (order n (suc (n - k)))) ≡ 2 ^ (n - k)
      long = fills-length (syndrome_of n rows) (order n (suc (n - k))) (blanks (2 ^ (n - k))) ∙ length-replicate (2 ^ (n - k)) no_leader

      entry : (s : ℕ) → s < 2 ^ (n - k) → get_or (fills (syndrome_of n rows) (blanks (2 ^ (n - k))) (order n (suc (n - k)))) s 0 ≡ get_or (leaders_list n k rows) s 0
      entry s l =
          (rw checks_are at (built n rows A.inside few s (rw checks_are l)))
          ∙ sym (get_d_tabulate (leader_of n rows) (2 ^ (n - k)) s l)

  pub tries_are : tried_by (take (n - k) (padded max_checks (checks n rows))) n (n - k) ≡ leaders_tried n k rows
  unfolding tried_by
  tries_are = ap (λ (hs : List ℕ). tried_by hs n (n - k)) rows_of

  -- that is the place of the leader that comes last
  pub place_is : (last : ℕ) × LastLeader n rows (n - k) last (leaders_tried n k rows)
  place_is = rw checks_are at (last_leader n rows A.inside few)
