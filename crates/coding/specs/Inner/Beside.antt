-- Entries that stand beside the reduced rows, such as their messages, take the same sums.
use Rattle.std.specs.Prelude.{List, [], ◌∷◌, ℕ}
use Rattle.coding.specs.Word.{◌⊕◌, bit}
use Rattle.coding.specs.Matrix.{sel}

-- x is added to the entries beside the rows that have a one at place q
abbrev pub wipes : ℕ → List ℕ → List ℕ → ℕ → List ℕ
wipes q [] M m = []
wipes q (b ∷ B) [] m = []
wipes q (b ∷ B) (y ∷ M) m = (y ⊕ sel (bit b q) m) ∷ wipes q B M m
