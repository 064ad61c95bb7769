-- 01, parts 5 and 7: how one word ends.
use Rattle.std.specs.Prelude.{List, cond, ℕ, ◌^◌, eqb, ltb, length}
use Rattle.coding.specs.Word.{◌⊕◌}
use Rattle.coding.specs.Columns.{units, split_syndrome, column_place}
use Rattle.hsiao.specs.Table.{columns, split}
use Rattle.hsiao.specs.declared.word.Word.{Word}
use Rattle.outcomes.specs.declared.ending.Outcome.{Outcome}
use Rattle.outcomes.specs.declared.ending.Outcome.TheVariants.{Clean, Mended, Far}

-- one place changed
abbrev pub with_check : Word → ℕ → Word
with_check w j = record { check = w.check ⊕ 2 ^ j; «data» = w.«data» }

abbrev pub with_data : Word → ℕ → Word
with_data w i = record { check = w.check; «data» = w.«data» ⊕ 2 ^ i }

-- the received word w by its syndrome s, for c check places and these data columns: 0 is clean, the column of a place mends that place,
-- any other is far
abbrev pub outcome_at : ℕ → List ℕ → Word → ℕ → Outcome Word
outcome_at c cols w s =
    cond (eqb s 0) (Clean w)
    (cond (ltb (column_place (units c) s) c) (Mended (with_check w (column_place (units c) s)) 1)
    (cond (ltb (column_place cols s) (length cols)) (Mended (with_data w (column_place cols s)) 1) Far))

abbrev pub outcome_by : ℕ → List ℕ → Word → Outcome Word
outcome_by c cols w = outcome_at c cols w (split_syndrome c cols (split w))

-- a word of the (72,64) code
abbrev pub outcome_of : Word → Outcome Word
outcome_of w = outcome_by 8 columns w
