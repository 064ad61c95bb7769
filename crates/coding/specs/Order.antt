-- The words by rising weight, of equal weight by rising number, and the list that they fill: a word takes the entry of its syndrome
-- where that is still blank, so that the first met is the lightest and smallest.
use Rattle.std.specs.Prelude.{List, [], ◌∷◌, ◌++◌, map, cond, ℕ, zero, suc, ◌+◌, ◌^◌, eqb, get_or, set, replicate}
use Rattle.coding.specs.Leader.{no_leader}

-- the words of m places and weight t, by rising number: those without the highest place, then those with it
abbrev pub words : ℕ → ℕ → List ℕ
words m zero = 0 ∷ []
words zero (suc t) = []
words (suc m) (suc t) = words m (suc t) ++ map (λ w. 2 ^ m + w) (words m t)

-- the words of n places and weight below t, in that order
abbrev pub order : ℕ → ℕ → List ℕ
order n zero = []
order n (suc t) = order n t ++ words n t

abbrev pub fill : (ℕ → ℕ) → List ℕ → ℕ → List ℕ
fill syn L w = cond (eqb (get_or L (syn w) 0) no_leader) (set L (syn w) w) L

abbrev pub fills : (ℕ → ℕ) → List ℕ → List ℕ → List ℕ
fills syn L [] = L
fills syn L (w ∷ ws) = fills syn (fill syn L w) ws

-- a list of blank entries
abbrev pub blanks : ℕ → List ℕ
blanks m = replicate m no_leader
