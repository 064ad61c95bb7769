-- Outcomes by the slots of Decode's counts, where 255 means far.
use Rattle.std.specs.Prelude.{List, map, cond, ℕ, eqb}
use Rattle.outcomes.specs.declared.ending.Outcome.{Outcome}
use Rattle.outcomes.specs.declared.ending.Outcome.TheVariants.{Clean, Mended, Far}
use Rattle.tally.specs.Tally.{tally_of}
use Rattle.tally.specs.declared.tally.Tally.{Tally}

-- the outcome that a slot of the counts tells, the codeword left out
abbrev pub slot_outcome : ℕ → Outcome ℕ
slot_outcome count = cond (eqb count 255) Far (cond (eqb count 0) (Clean 0) (Mended 0 count))

-- the tally of the slots
abbrev pub slot_tally : List ℕ → Tally
slot_tally counts = tally_of (map slot_outcome counts)
