-- 01, "Causes and numbers", and 02, No. 3, No. 5 and No. 6: every cause in the papers' order, its number and the value beside it.
use Rattle.std.specs.Prelude.{◌≡◌, ◌≢◌, List, [], ◌∷◌, map, ℕ}
use Rattle.answers.specs.Refusal.{number_of, value_of}
use Rattle.answers.specs.declared.answer.Refusal.{Refusal}
use Rattle.answers.specs.declared.answer.Refusal.TheVariants.{OutOfRange, RowCount, RowOutside, Dependent, RadiusTooLarge, TooManyWords, WordOutside, ShortOutput, ShortWork, NoCodeword, NoWidth, BeyondWidth, NoDepth, NoBits}
use Rattle.sheet.specs.Fault as fault
use Rattle.sheet.specs.declared.answer.Fault.{Fault}
use Rattle.sheet.specs.declared.answer.Fault.TheVariants.{Layout, Tag}

-- the causes of the operations, those with a row or a word at i, and the causes of a sheet at byte i
abbrev pub causes : ℕ → List Refusal
causes i =
    OutOfRange ∷ RowCount ∷ RowOutside i ∷ Dependent i ∷ RadiusTooLarge ∷ TooManyWords ∷ WordOutside i ∷ ShortOutput ∷ ShortWork ∷ NoCodeword i
    ∷ NoWidth ∷ BeyondWidth ∷ NoDepth ∷ NoBits ∷ []

abbrev pub faults : ℕ → List Fault
faults i = Layout i ∷ Tag i ∷ []

pub record Causes : Type 0 where
  pub numbers : (i : ℕ) → map number_of (causes i) ≡ 1 ∷ 2 ∷ 3 ∷ 4 ∷ 5 ∷ 6 ∷ 7 ∷ 8 ∷ 9 ∷ 10 ∷ 14 ∷ 15 ∷ 16 ∷ 17 ∷ []
  pub values : (i : ℕ) → map value_of (causes i) ≡ 0 ∷ 0 ∷ i ∷ i ∷ 0 ∷ 0 ∷ i ∷ 0 ∷ 0 ∷ i ∷ 0 ∷ 0 ∷ 0 ∷ 0 ∷ []
  pub sheet_numbers : (i : ℕ) → map fault.number_of (faults i) ≡ 12 ∷ 13 ∷ []
  pub sheet_values : (i : ℕ) → map fault.value_of (faults i) ≡ i ∷ i ∷ []
  -- number 11 is not given to anything else
  pub no_eleven : (c : Refusal) → number_of c ≢ 11
  pub no_sheet_eleven : (f : Fault) → fault.number_of f ≢ 11
