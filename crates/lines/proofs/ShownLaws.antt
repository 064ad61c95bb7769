-- Laws of what an output shows: the outcome of an ending, and texts cut at a character that their pieces lack.
use mathlib.Core.Path.{◌≡◌, refl, sym, ap, ◌∙◌}
use mathlib.Core.Bool.{Bool, true, false, cond}
use mathlib.Core.List.{List, [], ◌∷◌, ◌++◌, List-discrete}
use Prim.Native.Nat.{ℕ, zero, suc, ◌/◌, ◌%◌, ◌≤◌, ◌<◌}
use native.Mathlib.Decide.{ℕ_discrete, dec_le}
use native.Mathlib.Omega.{arith}
use borrow.Author.Tests.{lt-ltb, le-ltb, eq-eqb, ne_eqb}
use lib.Dec.{eqb}
use lib.ListN.{length, length-append}
use Rattle.coding.specs.Lists.{tabulate}
use Rattle.outcomes.specs.declared.ending.Outcome.{Outcome}
use Rattle.outcomes.specs.declared.ending.Outcome.TheVariants.{Clean, Mended, Far}
use Rattle.lines.specs.Decimal.{digit, decimal_in, decimal}
use Rattle.lines.specs.Text.{written, space}
use Rattle.lines.specs.Line.{ending}
use Rattle.lines.specs.Shown.{put_first, cut_at, after_blank, said, shown_by, shown}
use Rattle.lines.proofs.DecimalMeaning.{decimal_says}
use Rattle.tally.proofs.TallyLaws.{bare, Tells}

-- ---- what an ending shows

-- no number is written "far": taken for digits it would say 5956, which has four; and only 0 is written "0"
decimal-not_far : (x : ℕ) → decimal x ≡ written "far" → ⊥
unfolding decimal
decimal-not_far x e =
    let n : x ≡ 5956 = sym (decimal_says x) ∙ ap (said 0) e in
    let l : length (decimal 5956) ≡ 3 = ap length (ap decimal (sym n) ∙ e) in
    absurd (omega (arith, l))

decimal-zero : decimal 0 ≡ written "0"
unfolding decimal
decimal-zero = refl

decimal_only_zero : (x : ℕ) → decimal x ≡ written "0" → x ≡ 0
decimal_only_zero x e = sym (decimal_says x) ∙ ap (said 0) e

-- "far" is shown exactly for a far word, "0" exactly for a clean one, and else the count
pub shown-ending : (o : Outcome ℕ) → Tells o → shown (ending o) ≡ bare o
shown-ending o t = go o t (List-discrete ℕ_discrete (ending o) (written "far")) (List-discrete ℕ_discrete (ending o) (written "0"))
  where
    go : (o : Outcome ℕ) → Tells o → (f : Dec (ending o ≡ written "far")) (z : Dec (ending o ≡ written "0")) → shown_by (ending o) f z ≡ bare o
    go (Clean c) t (yes f) z = absurd (decimal-not_far 0 f)
    go (Clean c) t (no f) (yes z) = refl
    go (Clean c) t (no f) (no z) = absurd (z decimal-zero)
    go (Mended c d) t (yes f) z = absurd (decimal-not_far d f)
    go (Mended c d) t (no f) (yes z) = absurd (t.0 (decimal_only_zero d z))
    go (Mended c d) t (no f) (no z) = ap (Mended 0) (decimal_says d)
    go Far t (yes f) z = refl
    go Far t (no f) z = absurd (f refl)

-- ---- lines and blanks

-- a text without a character
abbrev pub Without : ℕ → List ℕ → Type 0
Without x [] = Unit {0}
Without x (c ∷ text) = (c ≡ x → ⊥) × Without x text

pub without-append : (x : ℕ) (a b : List ℕ) → Without x a → Without x b → Without x (a ++ b)
without-append x [] b h k = k
without-append x (c ∷ a) b h k = (h.0, without-append x a b h.1 k)

pub cut_piece : (x : ℕ) (piece rest : List ℕ) → Without x piece → cut_at x (piece ++ x ∷ rest) ≡ piece ∷ cut_at x rest
cut_piece x [] rest h = rw (eq-eqb x x refl)
cut_piece x (c ∷ piece) rest h = rw (ne_eqb c x h.0, cut_piece x piece rest h.1)

-- the last, where something is left
pub cut_last : (x : ℕ) (piece : List ℕ) → 1 ≤ length piece → Without x piece → cut_at x piece ≡ piece ∷ []
cut_last x [] l h = absurd (omega arith)
cut_last x (c ∷ []) l h = rw (ne_eqb c x h.0)
cut_last x (c ∷ d ∷ piece) l h = rw (ne_eqb c x h.0) (ap (put_first c) (cut_last x (d ∷ piece) (omega arith) h.1))

pub after_blank_lem : (front back : List ℕ) → Without space front → after_blank (front ++ space ∷ back) ≡ back
after_blank_lem [] back h = refl
after_blank_lem (c ∷ front) back h = rw (ne_eqb c space h.0) (after_blank_lem front back h.1)

-- digits are neither
pub digits-without : (x : ℕ) → x < 48 → (f : ℕ → ℕ) (n : ℕ) → Without x (tabulate (λ i. digit (f i)) n)
digits-without x h f zero = tt
digits-without x h f (suc n) = (λ e. omega arith, digits-without x h (λ i. f (suc i)) n)

decimal_in_without : (x : ℕ) → x < 48 → (d y : ℕ) → Without x (decimal_in d y)
decimal_in_without x h zero y = (λ e. omega arith, tt)
decimal_in_without x h (suc d) y = go (dec_le 10 y) (decimal_in_without x h d (y / 10))
  where
    go : Dec (10 ≤ y) → Without x (decimal_in d (y / 10)) → Without x (decimal_in (suc d) y)
    go (yes l) r = rw (le-ltb y 10 l) (without-append x (decimal_in d (y / 10)) (digit (y % 10) ∷ []) r (λ e. omega arith, tt))
    go (no n) r = rw (lt-ltb y 10 (omega arith)) (λ e. omega arith, tt)

decimal_in_long : (d y : ℕ) → 1 ≤ length (decimal_in d y)
decimal_in_long zero y = omega arith
decimal_in_long (suc d) y = go (dec_le 10 y)
  where
    go : Dec (10 ≤ y) → 1 ≤ length (decimal_in (suc d) y)
    go (yes l) = rw (le-ltb y 10 l) (omega (arith, length-append (decimal_in d (y / 10)) (digit (y % 10) ∷ [])))
    go (no n) = rw (lt-ltb y 10 (omega arith)) (omega arith)

pub decimal_long : (y : ℕ) → 1 ≤ length (decimal y)
unfolding decimal
decimal_long y = decimal_in_long y y

pub decimal-without : (x : ℕ) → x < 48 → (y : ℕ) → Without x (decimal y)
unfolding decimal
decimal-without x h y = decimal_in_without x h y y

-- a text that passes the test, which computes
abbrev pub lacks : ℕ → List ℕ → Bool
lacks x [] = true
lacks x (c ∷ text) = cond (eqb c x) false (lacks x text)

pub lacks-without : (x : ℕ) (text : List ℕ) → lacks x text ≡ true → Without x text
lacks-without x [] e = tt
lacks-without x (c ∷ text) e = go (ℕ_discrete c x) (lacks-without x text)
  where
    go : Dec (c ≡ x) → (lacks x text ≡ true → Without x text) → Without x (c ∷ text)
    go (yes q) r = let f = rw (eq-eqb c x q) at e in let z : ◌≡◌ {A = ℕ} 0 1 = cc in absurd (omega arith)
    go (no q) r = (q, r (rw (ne_eqb c x q) at e))
