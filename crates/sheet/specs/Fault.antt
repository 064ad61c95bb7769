-- 01, "Causes and numbers", 12 and 13: the number of each cause and the value beside it.
use Rattle.std.specs.Prelude.{ℕ}
use Rattle.sheet.specs.declared.answer.Fault.{Fault}
use Rattle.sheet.specs.declared.answer.Fault.TheVariants.{Layout, Tag}

-- sheet cut, too long or wrong field length; tag unknown, not rising, or missing
abbrev pub number_of : Fault → ℕ
number_of (Layout at) = 12
number_of (Tag at) = 13

-- the byte position
abbrev pub value_of : Fault → ℕ
value_of (Layout at) = at
value_of (Tag at) = at
