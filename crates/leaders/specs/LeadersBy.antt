-- 01, part 4, and 02, No. 4, for any parity-check rows: the list of the leaders that words fill in their order, and how many are tried.
use Rattle.std.specs.Prelude.{◌≡◌, List, ◌++◌, Bool, true, cond, ◌&&◌, ℕ, suc, ◌-◌, ◌^◌, ◌≤◌, leb, length, take, drop, Option, Some, None, IfSome, is_some}
use Rattle.coding.specs.Lists.{padded}
use Rattle.coding.specs.Check.{checks, syndrome}
use Rattle.coding.specs.Order.{order, fills, blanks}
use Rattle.coding.specs.Tries.{tried}
use Rattle.words.specs.Limits.{max_checks, width}
use Rattle.words.specs.Accepted.{Accepted}
use Rattle.leaders.specs.Leaders.{leaders_list, leaders_tried}

-- the words of n places and weight up to c are tried by rising weight, of equal weight by rising number, and each takes the entry of its
-- syndrome where that is blank
unfoldable pub filled_by : List ℕ → ℕ → ℕ → List ℕ
filled_by hs n c = fills (syndrome hs) (blanks (2 ^ c)) (order n (suc c))

-- how many of these words are tried until no entry is blank
unfoldable pub tried_by : List ℕ → ℕ → ℕ → ℕ
tried_by hs n c = tried (syndrome hs) (blanks (2 ^ c)) (order n (suc c))

-- such words fit a machine word, there are no more check rows than a code may have, and the list has an entry for each syndrome
abbrev pub leaders_fit : ℕ → ℕ → ℕ → Bool
leaders_fit n c room = leb n width && leb c max_checks && leb (2 ^ c) room

-- by the first c of the check rows hs: where there is room the first 2 ^ c entries are so filled, and every later slot, and else every
-- slot, is as it was; r is the number of words tried, the zero word at least, and nothing where there is no room. By the check rows of an
-- accepted matrix they are its leaders, and r is the number of words tried for these
pub record LeadersBy (hs : List ℕ) (n c : ℕ) (before : List ℕ) (r : Option ℕ) (after : List ℕ) : Type 0 where
  pub tries : r ≡ cond (leaders_fit n c (length before)) (Some (tried_by (take c hs) n c)) None
  pub room : is_some r ≡ leaders_fit n c (length before)
  pub zero_word : IfSome r (λ tries. 1 ≤ tries)
  pub list : after ≡ cond (leaders_fit n c (length before)) (filled_by (take c hs) n c ++ drop (2 ^ c) before) before
  pub of_matrix : (k : ℕ) (rows : List ℕ) → Accepted n k rows → c ≡ n - k → hs ≡ padded max_checks (checks n rows)
      → leaders_fit n c (length before) ≡ true
      → (after ≡ leaders_list n k rows ++ drop (2 ^ (n - k)) before) × (r ≡ Some (leaders_tried n k rows))
