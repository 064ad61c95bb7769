-- What is taken from the matrix once causes have been tested.
use Rattle.std.specs.Prelude.{◌≡◌, List, Bool, true, cond, ℕ, Some, None, Result}
use Rattle.coding.specs.Lists.{padded}
use Rattle.coding.specs.Check.{checks}
use Rattle.coding.specs.Weight.{dmin}
use Rattle.words.specs.Limits.{max_checks}
use Rattle.answers.specs.declared.answer.Refusal.{Refusal}
use Rattle.answers.specs.Refusal.{Answer, answered}
use Rattle.outcomes.specs.declared.ending.Reading.{Reading}
use Rattle.outcomes.specs.declared.ending.Reading.TheVariants.{Nearest, Within}
use Rattle.judging.specs.declared.matrix.Known.{Known}

-- the minimum distance is asked for where it is measured, and within a radius always
abbrev pub asked : Reading → Bool → Bool
asked Nearest measure = measure
asked (Within r) measure = true

-- what the matrix tells: its check rows, and the minimum distance where it is asked for
abbrev pub known_of : Bool → ℕ → List ℕ → Known
known_of asks n rows = record { checks = padded max_checks (checks n rows); dmin = cond asks (Some (dmin rows)) None }

-- causes have been tested, 1 to 4 or more: one of them refuses, or what the matrix tells is known
abbrev pub KnownPast : Bool → ℕ → List ℕ → Answer → Result Known Refusal → Type 0
KnownPast asks n rows tested r = r ≡ answered tested (known_of asks n rows)
