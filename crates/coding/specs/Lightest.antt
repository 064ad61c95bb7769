-- Of the numbers that pass a test the one of least key, and of several the smallest. With the weight as the key: so 02 chooses Describe's
-- lightest codeword and 01 a coset leader.
use Rattle.std.proofs.Math.Option.{Option, none, some}
use Rattle.std.specs.Prelude.{Bool, true, false, cond, ℕ, zero, suc, ltb}
use Rattle.coding.specs.Word.{weight}

-- where m passes, the better of m and the one found below it
abbrev pub merge : (ℕ → ℕ) → Bool → ℕ → Option ℕ → Option ℕ
merge key false m o = o
merge key true m none = some m
merge key true m (some b) = some (cond (ltb (key m) (key b)) m b)

-- the one found below m; `found_by` says that it is the one of least key, then smallest
abbrev pub least_below : (ℕ → ℕ) → (ℕ → Bool) → ℕ → Option ℕ
least_below key p zero = none
least_below key p (suc m) = merge key (p m) m (least_below key p m)

-- by weight: the lightest, then smallest
abbrev pub lightest_below : (ℕ → Bool) → ℕ → Option ℕ
lightest_below p m = least_below weight p m

-- the number found, or d
abbrev pub or_else : ℕ → Option ℕ → ℕ
or_else d none = d
or_else d (some l) = l
