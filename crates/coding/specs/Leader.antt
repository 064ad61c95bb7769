-- 01, part 4: the coset leader of a syndrome, the lightest word having it; of several, the smallest number.
use Rattle.std.specs.Prelude.{◌≡◌, ◌↔◌, List, Bool, ℕ, ◌-◌, ◌^◌, ◌≤◌, ◌<◌, eqb}
use Rattle.coding.specs.Word.{◌⊕◌, weight}
use Rattle.coding.specs.Matrix.{Codeword}
use Rattle.coding.specs.Check.{checks, syndrome}
use Rattle.coding.specs.Lightest.{lightest_below, or_else}

-- the syndrome by the matrix's own check rows
abbrev pub syndrome_of : ℕ → List ℕ → ℕ → ℕ
syndrome_of n rows w = syndrome (checks n rows) w

-- l is the leader of the syndrome s: of the words having s, which are a row of the standard array, the coset of l, the lightest and
-- of several the smallest
pub record IsLeader (n : ℕ) (rows : List ℕ) (s l : ℕ) : Type 0 where
  pub below : l < 2 ^ n
  pub has : syndrome_of n rows l ≡ s
  pub coset : (v : ℕ) → v < 2 ^ n → (syndrome_of n rows v ≡ s) ↔ Codeword rows (l ⊕ v)
  pub lightest : (v : ℕ) → v < 2 ^ n → syndrome_of n rows v ≡ s → weight l ≤ weight v
  pub smallest : (v : ℕ) → v < 2 ^ n → syndrome_of n rows v ≡ s → weight v ≡ weight l → l ≤ v

-- 02, No. 6: every syndrome of c places has a leader, which weighs at most c
abbrev pub EveryLeader : ℕ → List ℕ → ℕ → Type 0
EveryLeader n rows c = (s : ℕ) → s < 2 ^ c → (l : ℕ) × IsLeader n rows s l × (weight l ≤ c)

-- the blank entry: what the build writes before it tries words, and the value of a search that finds nothing. No lent list holds it at
-- the end: every syndrome has a leader, and a leader weighs at most n - k (`leader_is`, `leader_light`)
abbrev pub no_leader : ℕ
no_leader = 2 ^ 32 - 1

-- the words that have the syndrome s
abbrev pub having : (ℕ → ℕ) → ℕ → ℕ → Bool
having syn s v = eqb (syn v) s

-- the leader of the syndrome s; `leader_is` says that it is the one
abbrev pub leader_of : ℕ → List ℕ → ℕ → ℕ
leader_of n rows s = or_else no_leader (lightest_below (having (syndrome_of n rows) s) (2 ^ n))
