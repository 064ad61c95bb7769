-- 01, "Worked words": its way to write words, and its matrices.
use Rattle.std.specs.Prelude.{List, [], ◌∷◌, map, cond, ℕ, zero, suc, ◌+◌, ◌*◌, eqb}
use Rattle.coding.specs.Word.{bit, weight}

-- a word of n places by its digits, place 0 leftmost: 01's 1101000 is `digits 7 0b1101000`
abbrev pub digits : ℕ → ℕ → ℕ
digits zero x = 0
digits (suc m) x = bit x m + 2 * digits m x

-- the words of a list that weigh t
abbrev pub of_weight : ℕ → List ℕ → List ℕ
of_weight t [] = []
of_weight t (w ∷ l) = cond (eqb (weight w) t) (w ∷ of_weight t l) (of_weight t l)

-- (7,4) with rows 1101000, 0110100, 1110010, 1010001
abbrev pub seven : List ℕ
seven = map (digits 7) (0b1101000 ∷ 0b0110100 ∷ 0b1110010 ∷ 0b1010001 ∷ [])

-- (5,2) with rows 10111, 01101
abbrev pub five : List ℕ
five = map (digits 5) (0b10111 ∷ 0b01101 ∷ [])

-- the same code by rows 10111, 11010
abbrev pub other_five : List ℕ
other_five = map (digits 5) (0b10111 ∷ 0b11010 ∷ [])

-- (6,3) with rows 100011, 010101, 001110, that of 01's sheet
abbrev pub six : List ℕ
six = map (digits 6) (0b100011 ∷ 0b010101 ∷ 0b001110 ∷ [])

-- n = 4, rows 1100, 1010, 0110, the last the sum of the others
abbrev pub four : List ℕ
four = map (digits 4) (0b1100 ∷ 0b1010 ∷ 0b0110 ∷ [])
