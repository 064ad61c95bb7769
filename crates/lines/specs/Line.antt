-- 01, "The code sheet": the parts of the lines that are printed.
use Rattle.std.specs.Prelude.{List, [], ◌∷◌, ◌++◌, ℕ, ◌-◌, ◌/◌}
use Rattle.coding.specs.Lists.{tabulate}
use Rattle.coding.specs.Word.{bit}
use Rattle.outcomes.specs.declared.ending.Outcome.{Outcome}
use Rattle.outcomes.specs.declared.ending.Outcome.TheVariants.{Clean, Mended, Far}
use Rattle.lines.specs.Decimal.{digit, decimal}
use Rattle.lines.specs.Text.{written, space, line_feed}

-- "refused", the number and the value beside it
unfoldable pub refused_line : ℕ → ℕ → List ℕ
refused_line number value = written "refused " ++ decimal number ++ space ∷ decimal value ++ line_feed ∷ []

-- "n k dmin t" with t = (dmin - 1) / 2 rounded down
unfoldable pub code_line : ℕ → ℕ → ℕ → List ℕ
code_line n k d = decimal n ++ space ∷ decimal k ++ space ∷ decimal d ++ space ∷ decimal ((d - 1) / 2) ++ line_feed ∷ []

-- the n digits of a word, place 0 leftmost
unfoldable pub digits_of : ℕ → ℕ → List ℕ
digits_of n w = tabulate (λ i. digit (bit w i)) n

-- how a word ended: the count, or "far"
abbrev pub ending : Outcome ℕ → List ℕ
ending (Clean c) = decimal 0
ending (Mended c count) = decimal count
ending Far = written "far"
