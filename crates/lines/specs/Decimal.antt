-- A number in decimal digits, without leading zeros.
use Rattle.std.specs.Prelude.{List, [], ◌∷◌, ◌++◌, cond, ℕ, zero, suc, ◌+◌, ◌/◌, ◌%◌, ltb}

-- the character of a digit
abbrev pub digit : ℕ → ℕ
digit d = 48 + d

-- below 10 the digit, else the digits of a tenth and then the last one; in at most d + 1 digits
abbrev pub decimal_in : ℕ → ℕ → List ℕ
decimal_in zero x = digit x ∷ []
decimal_in (suc d) x = cond (ltb x 10) (digit x ∷ []) (decimal_in d (x / 10) ++ digit (x % 10) ∷ [])

unfoldable pub decimal : ℕ → List ℕ
decimal x = decimal_in x x
