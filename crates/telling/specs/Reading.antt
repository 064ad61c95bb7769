-- The reading as a program in another language passes it: a number and a radius.
use Rattle.std.specs.Prelude.{ℕ, zero, suc}
use Rattle.outcomes.specs.declared.ending.Reading.{Reading}
use Rattle.outcomes.specs.declared.ending.Reading.TheVariants.{Nearest, Within}

-- 0 means nearest, whatever the radius; anything else within the radius
abbrev pub reading_of : ℕ → ℕ → Reading
reading_of zero radius = Nearest
reading_of (suc within) radius = Within radius
