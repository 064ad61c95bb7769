-- What the lines of a text show, read from its bytes alone.
use Rattle.std.specs.Prelude.{◌≡◌, cond, ℕ, ◌+◌, ◌-◌, ◌*◌, eqb, length, take}
use mathlib.Core.List.{List, [], ◌∷◌, List-discrete}
use Rattle.std.proofs.Math.Decide.{ℕ_discrete}
use Rattle.outcomes.specs.declared.ending.Outcome.{Outcome}
use Rattle.outcomes.specs.declared.ending.Outcome.TheVariants.{Clean, Mended, Far}
use Rattle.lines.specs.Text.{written, space}

-- ---- the lines of a text

abbrev pub put_first : ℕ → List (List ℕ) → List (List ℕ)
put_first c [] = (c ∷ []) ∷ []
put_first c (p ∷ pieces) = (c ∷ p) ∷ pieces

-- a text cut at a character: what stands before each, without it, and what stands after the last
abbrev pub cut_at : ℕ → List ℕ → List (List ℕ)
cut_at x [] = []
cut_at x (c ∷ text) = cond (eqb c x) ([] ∷ cut_at x text) (put_first c (cut_at x text))

-- what stands after the first blank of a line
abbrev pub after_blank : List ℕ → List ℕ
after_blank [] = []
after_blank (c ∷ line) = cond (eqb c space) line (after_blank line)

-- a text begins with another
abbrev pub Begins : (text out : List ℕ) → Type 0
Begins text out = take (length text) out ≡ text

-- ---- what a line shows

-- the number that digits say, after those that say a
abbrev pub said : ℕ → List ℕ → ℕ
said a [] = a
said a (c ∷ cs) = said (a * 10 + (c - 48)) cs

-- the outcome that an ending shows: "far", "0", or else the number that its digits say
abbrev pub shown_by : (e : List ℕ) → Dec (e ≡ written "far") → Dec (e ≡ written "0") → Outcome ℕ
shown_by e (yes f) z = Far
shown_by e (no f) (yes z) = Clean 0
shown_by e (no f) (no z) = Mended 0 (said 0 e)

abbrev pub shown : List ℕ → Outcome ℕ
shown e = shown_by e (List-discrete ℕ_discrete e (written "far")) (List-discrete ℕ_discrete e (written "0"))
