-- What the build of the leaders asks and leaves at each step.
use Rattle.std.specs.Prelude.{◌≡◌, List, map, ℕ, ◌+◌, ◌*◌, ◌^◌, ◌≤◌, ◌<◌, length}
use Rattle.coding.specs.Word.{weight}
use Rattle.coding.specs.Matrix.{encode}
use Rattle.coding.specs.Order.{words, fills}
use Rattle.coding.specs.Tries.{blank_count, tried}
use Rattle.words.specs.Limits.{width}
use Rattle.leaders.specs.declared.build.Filling.{Filling}

-- the words prefix + w of m places and weight t more are to be tried: the prefix has its ones at place m or beyond and its syndrome is s,
-- every syndrome has an entry, and `blank` entries are blank, one at least
pub record Trying (list cols : List ℕ) (m t prefix s blank : ℕ) : Type 0 where
  pub columns : length cols ≡ width
  pub places : m ≤ width
  pub some : 1 ≤ t
  pub above : (a : ℕ) × (prefix ≡ a * 2 ^ m)
  pub room : prefix + 2 ^ m ≤ 2 ^ 32
  pub light : weight prefix + t < width
  pub at : s ≡ encode cols prefix
  pub entries : (w : ℕ) → encode cols w < length list
  pub left : blank ≡ blank_count list
  pub more : 1 ≤ blank

-- they have been tried until no entry was blank: the list is as if all had been, and r is how many were
pub record Tried (before cols : List ℕ) (m t prefix : ℕ) (after : List ℕ) (blank r : ℕ) : Type 0 where
  pub filled : after ≡ fills (encode cols) before (map (λ w. prefix + w) (words m t))
  pub left : blank ≡ blank_count after
  pub count : r ≡ tried (encode cols) before (map (λ w. prefix + w) (words m t))

-- the same of a list that is being filled
abbrev pub TryingIn : Filling → ℕ → ℕ → ℕ → ℕ → Type 0
TryingIn b m t prefix s = Trying b.list.now b.cols m t prefix s b.blank

-- it keeps its columns and the list that it was lent
pub record TriedIn (before : Filling) (m t prefix : ℕ) (after : Filling) (r : ℕ) : Type 0 where
  pub tried : Tried before.list.now before.cols m t prefix after.list.now after.blank r
  pub columns : after.cols ≡ before.cols
  pub lent : after.list.ghost_name ≡ before.list.ghost_name
