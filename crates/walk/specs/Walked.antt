-- What the walk over the codewords has found after some of the messages, and the smallest word of a weight in a block of them.
use Rattle.std.specs.Prelude.{◌≡◌, ◌⊎◌, ◌-◌, ◌^◌, List, not, ℕ, suc, ◌≤◌, ◌<◌, eqb, nat_lt, if◌then◌else◌, length, get_or, Option, Some, None, IfSome}
use Rattle.std.specs.Option.{option_map}
use Rattle.coding.specs.Lists.{first}
use Rattle.coding.specs.Word.{◌⊕◌, weight}
use Rattle.coding.specs.Matrix.{encode}
use Rattle.coding.specs.Weight.{count}
use Rattle.words.specs.Limits.{weight_slots, width}
use Rattle.walk.specs.declared.walk.Walk.{Walk}

-- the least weight but 0 that has been counted, or 33
abbrev pub least_of : List ℕ → ℕ
least_of counts = suc (first (λ j. not (eqb (get_or counts (suc j) 0) 0)) width)

-- the same, where there is one
abbrev pub some_least : List ℕ → Option ℕ
some_least counts = if nat_lt (least_of counts) weight_slots then Some (least_of counts) else None

-- of the block's words before m, each with base added, r is the smallest that weighs w, or 2^32 - 1 where none does
pub record SmallestOf (block : List ℕ) (base : ℕ) (weights : List ℕ) (w m r : ℕ) : Type 0 where
  pub each : (i : ℕ) → i < m → get_or weights i 0 ≡ w → r ≤ get_or block i 0 ⊕ base
  pub one : (r ≡ 2 ^ 32 - 1) ⊎ ((i : ℕ) × (i < m) × (get_or weights i 0 ≡ w) × (r ≡ get_or block i 0 ⊕ base))

-- x is a codeword of weight l, the smallest of those of the messages below m
pub record SmallestMet (rows : List ℕ) (m l x : ℕ) : Type 0 where
  pub met : (u : ℕ) × (u < m) × (x ≡ encode rows u)
  pub weighs : weight x ≡ l
  pub smallest : (u : ℕ) → u < m → weight (encode rows u) ≡ l → x ≤ encode rows u

-- the codewords of the messages below m have been counted, and of those that are not 0 the lightest is held, of several the smallest;
-- before the first of them none is
pub record Walked (rows : List ℕ) (m : ℕ) (w : Walk) : Type 0 where
  pub size : length w.counts ≡ weight_slots
  pub counts : (j : ℕ) → j < weight_slots → get_or w.counts j 0 ≡ count (λ u. eqb (weight (encode rows u)) j) m
  pub least : option_map (λ l. l.weight) w.lightest ≡ some_least w.counts
  pub lightest : IfSome w.lightest (λ l. SmallestMet rows m l.weight l.word)
