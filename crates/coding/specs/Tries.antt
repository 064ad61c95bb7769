-- 02, No. 4: how many words are tried until no entry is blank, and the place in the order of the leader that comes last.
use Rattle.std.specs.Prelude.{◌≡◌, ◌⊎◌, List, [], ◌∷◌, cond, ℕ, suc, ◌-◌, ◌^◌, ◌<◌, eqb, length, get_or, take}
use Rattle.coding.specs.Lists.{first}
use Rattle.coding.specs.Word.{weight}
use Rattle.coding.specs.Weight.{count}
use Rattle.coding.specs.Leader.{no_leader, syndrome_of, leader_of}
use Rattle.coding.specs.Order.{order, fill, fills, blanks}

-- the blank entries of a list
abbrev pub blank_count : List ℕ → ℕ
blank_count L = count (λ s. eqb (get_or L s 0) no_leader) (length L)

-- how many of the words are tried: none where no entry is blank or no word is left, else one, and those of the rest after it
abbrev pub tried : (ℕ → ℕ) → List ℕ → List ℕ → ℕ
tried syn L [] = 0
tried syn L (w ∷ ws) = cond (eqb (blank_count L) 0) 0 (suc (tried syn (fill syn L w) ws))

-- the word u comes before v: it is lighter, or of equal weight the smaller number
abbrev pub Before : ℕ → ℕ → Type 0
Before u v = (weight u < weight v) ⊎ ((weight u ≡ weight v) × (u < v))

-- every word of n places and weight below t stands in the list, once, and of two the one that comes before stands first;
-- `order_is` says so of `order n t`
pub record IsOrder (n t : ℕ) (ws : List ℕ) : Type 0 where
  pub within : (i : ℕ) → i < length ws → (get_or ws i 0 < 2 ^ n) × (weight (get_or ws i 0) < t)
  pub each : (v : ℕ) → v < 2 ^ n → weight v < t → (i : ℕ) × (i < length ws) × (get_or ws i 0 ≡ v)
  pub rising : (i j : ℕ) → i < j → j < length ws → Before (get_or ws i 0) (get_or ws j 0)
  pub different : (i j : ℕ) → i < length ws → j < length ws → get_or ws i 0 ≡ get_or ws j 0 → i ≡ j

-- the place of a word, the first one's being 1
abbrev pub place_in : List ℕ → ℕ → ℕ
place_in ws w = suc (first (λ i. eqb (get_or ws i 0) w) (length ws))

-- of the leaders of the syndromes below 2 ^ c the word `last` comes last, the heaviest and of those the largest number, and it stands
-- at this place among the words of weight up to c; the words up to it give every entry its leader, those before it leave one blank
pub record LastLeader (n : ℕ) (rows : List ℕ) (c last place : ℕ) : Type 0 where
  pub leads : (s : ℕ) × (s < 2 ^ c) × (leader_of n rows s ≡ last)
  pub latest : (s : ℕ) → s < 2 ^ c → (leader_of n rows s ≡ last) ⊎ Before (leader_of n rows s) last
  pub ordered : IsOrder n (suc c) (order n (suc c))
  pub stands : place ≡ place_in (order n (suc c)) last
  pub there : get_or (order n (suc c)) (place - 1) 0 ≡ last
  pub enough : (s : ℕ) → s < 2 ^ c → get_or (fills (syndrome_of n rows) (blanks (2 ^ c)) (take place (order n (suc c)))) s 0 ≡ leader_of n rows s
  pub needed : blank_count (fills (syndrome_of n rows) (blanks (2 ^ c)) (take (place - 1) (order n (suc c)))) ≡ 1
