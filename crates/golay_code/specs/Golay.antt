-- 01, part 6: the generator matrix of the extended Golay code (24,12), by its check part P.
use Rattle.std.specs.Prelude.{List, [], ◌∷◌, ◌++◌, ℕ, zero, suc, ◌+◌, ◌-◌, ◌*◌, ◌%◌, ◌^◌}
use Rattle.coding.specs.Lists.{tabulate}
use Rattle.coding.specs.Word.{bit}
use Rattle.coding.specs.Systematic.{systematic}

-- the word of m places whose place j is d j
abbrev pub from_digits : (ℕ → ℕ) → ℕ → ℕ
from_digits d zero = 0
from_digits d (suc m) = d 0 + 2 * from_digits (λ j. d (suc j)) m

-- row 0 of P, 100011101101; place 0 is the lowest bit
abbrev pub first_row : ℕ
first_row = 0b101101110001

-- rows 0 to 10: the first 11 digits of row 0, rotated left by the row's number, and a 1
abbrev pub rotated_row : ℕ → ℕ
rotated_row i = from_digits (λ j. bit first_row ((j + i) % 11)) 11 + 2 ^ 11

-- P: row 11 is eleven ones and a 0
unfoldable pub golay_checks : List ℕ
golay_checks = tabulate rotated_row 11 ++ ((2 ^ 11 - 1) ∷ [])

-- G is P then the identity: places 0 to 11 are checks, 12 to 23 the message
abbrev pub golay_rows : List ℕ
golay_rows = systematic 12 golay_checks
