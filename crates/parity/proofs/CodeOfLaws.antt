-- What the code of an accepted matrix leaves known to a caller.
use mathlib.Core.Path.{◌≡◌, ap, ◌∙◌}
use mathlib.Core.List.{List}
use Prim.Native.Nat.{ℕ, ◌-◌}
use native.Mathlib.Omega.{arith}
use lib.ListN.{length, take, length-map}
use lib.Seq.{take_at}
use Rattle.coding.specs.Lists.{padded}
use Rattle.coding.specs.Reduce.{reduce}
use Rattle.coding.specs.Check.{check, checks, frees}
use Rattle.words.specs.Limits.{max_checks}
use Rattle.words.specs.Accepted.{Accepted}
use Rattle.words.proofs.CodeLaws.{frees_are}

-- its first n - k entries are the check rows of the definition
pub first-checks : (n k : ℕ) (rows : List ℕ) → Accepted n k rows → (cs : List ℕ) → cs ≡ padded max_checks (checks n rows)
    → take (n - k) cs ≡ checks n rows
first-checks n k rows A cs e =
    let count : length (frees n rows) ≡ n - k = omega (arith, frees_are n k rows A) in
    ap (take (n - k)) e ∙ take_at (checks n rows) _ (n - k) (length-map (frees n rows) (check (reduce n rows)) ∙ count)
