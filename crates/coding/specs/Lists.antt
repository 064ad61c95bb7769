-- Small tools of the definitions: the first index that passes a test, and a list filled up with zeros.
use Rattle.std.specs.Prelude.{List, [], ◌∷◌, ◌++◌, Bool, cond, ℕ, zero, suc, ◌+◌, ◌-◌, length, replicate}

-- the first index below m that passes the test, or m where none does
abbrev pub first : (ℕ → Bool) → ℕ → ℕ
first p zero = zero
first p (suc m) = cond (p zero) zero (suc (first (λ i. p (suc i)) m))

-- m zeros
abbrev pub zeros : ℕ → List ℕ
zeros m = replicate m 0

-- the list, and 0 up to m entries
abbrev pub padded : ℕ → List ℕ → List ℕ
padded m l = l ++ zeros (m - length l)

-- f 0 to f (m - 1)
abbrev pub tabulate : (ℕ → ℕ) → ℕ → List ℕ
tabulate f zero = []
tabulate f (suc m) = f zero ∷ tabulate (λ i. f (suc i)) m

-- the sum of the entries
abbrev pub total : List ℕ → ℕ
total [] = 0
total (x ∷ l) = x + total l
