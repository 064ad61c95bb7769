-- 01, part 2: parity-check rows and syndromes.
use Rattle.std.specs.Prelude.{◌≡◌, ◌≢◌, List, [], ◌∷◌, map, ℕ, ◌+◌, ◌*◌, ◌^◌, ◌<◌, length, get_or}
use Rattle.coding.specs.Word.{◌⊕◌, bit, parity}
use Rattle.coding.specs.Reduce.{reduce, frees_from}

-- the word whose place i is the digit of entry i
abbrev pub places : (ℕ → ℕ) → List ℕ → ℕ
places digit [] = 0
places digit (x ∷ l) = digit x + 2 * places digit l

-- place q of each row of the list
abbrev pub column : List ℕ → ℕ → ℕ
column rows q = places (λ r. bit r q) rows

-- the check row of a place q that is no pivot: a 1 at its own place, and at each pivot the value at q of that pivot's row
abbrev pub check : List ℕ → ℕ → ℕ
check B q = 2 ^ q ⊕ column B q

-- the places below n that are no pivot, in rising order
pub record FreePlaces (n : ℕ) (pivots frees : List ℕ) : Type 0 where
  pub all : length pivots + length frees ≡ n
  pub inside : (j : ℕ) → j < length frees → get_or frees j 0 < n
  pub no_pivot : (i j : ℕ) → i < length pivots → j < length frees → get_or pivots i 0 ≢ get_or frees j 0
  pub rise : (i j : ℕ) → i < j → j < length frees → get_or frees i 0 < get_or frees j 0

-- 01's words for it: h is the check row of q, where these are the reduced rows, their pivots and the places that are no pivot
pub record CheckRow (n : ℕ) (rows pivots frees : List ℕ) (q h : ℕ) : Type 0 where
  pub own : bit h q ≡ 1
  pub at_pivots : (i : ℕ) → i < length rows → bit h (get_or pivots i 0) ≡ bit (get_or rows i 0) q
  pub at_others : (j : ℕ) → j < length frees → get_or frees j 0 ≢ q → bit h (get_or frees j 0) ≡ 0
  pub inside : h < 2 ^ n

-- one for each place that is no pivot, in rising order; B lists the reduced rows by place
abbrev pub checks_of : List ℕ → List ℕ
checks_of B = map (check B) (frees_from 0 B)

-- the places of a matrix that are no pivot, and its parity-check rows
abbrev pub frees : ℕ → List ℕ → List ℕ
frees n rows = frees_from 0 (reduce n rows)

abbrev pub checks : ℕ → List ℕ → List ℕ
checks n rows = checks_of (reduce n rows)

-- syndrome bit j is the parity of the word's places where check row j has a 1
abbrev pub syndrome : List ℕ → ℕ → ℕ
syndrome hs w = places (parity w) hs
