-- A generator matrix in systematic form, [P | I]: check places first, then the places of the message.
use Rattle.std.specs.Prelude.{List, [], ◌∷◌, ℕ, suc, ◌+◌, ◌^◌}

-- row i is row i of P, which has m places, and then a one at place m + i
abbrev pub systematic : ℕ → List ℕ → List ℕ
systematic m [] = []
systematic m (p ∷ P) = (p + 2 ^ m) ∷ systematic (suc m) P
