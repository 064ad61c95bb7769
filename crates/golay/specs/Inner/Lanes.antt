-- Numbers side by side in one word: lane i, five bits wide, belongs to entry i of a list.
use Rattle.std.specs.Prelude.{List, [], ◌∷◌, ℕ, ◌+◌, ◌*◌}

abbrev pub lanes : (ℕ → ℕ) → List ℕ → ℕ
lanes f [] = 0
lanes f (p ∷ P) = f p + 32 * lanes f P
