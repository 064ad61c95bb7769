-- What `decimal` means: the digits say the number, and the first of a number that is not 0 is not 0.
use mathlib.Core.Path.{◌≡◌, refl, ap, ◌∙◌}
use mathlib.Core.List.{List, [], ◌∷◌, ◌++◌}
use Prim.Native.Nat.{ℕ, zero, suc, ◌+◌, ◌-◌, ◌*◌, ◌/◌, ◌%◌, ◌≤◌, ◌<◌}
use native.Mathlib.Decide.{dec_le}
use native.Mathlib.Omega.{arith}
use borrow.Author.Tests.{lt-ltb, le-ltb}
use lib.ListN.{length, get_or, length-append, get_or-append}
use Rattle.lines.specs.Decimal.{digit, decimal_in, decimal}
use Rattle.lines.specs.Shown.{said}

said-append : (a : ℕ) (xs ys : List ℕ) → said a (xs ++ ys) ≡ said (said a xs) ys
said-append a [] ys = refl
said-append a (x ∷ xs) ys = said-append (a * 10 + (x - 48)) xs ys

said_in : (d x : ℕ) → x ≤ d → said 0 (decimal_in d x) ≡ x
said_in zero x h = omega arith
said_in (suc d) x h = go (dec_le 10 x) (λ l. said_in d (x / 10) (omega arith))
  where
    go : Dec (10 ≤ x) → (10 ≤ x → said 0 (decimal_in d (x / 10)) ≡ x / 10) → said 0 (decimal_in (suc d) x) ≡ x
    go (yes l) r =
        let e : said 0 (decimal_in d (x / 10) ++ digit (x % 10) ∷ []) ≡ said (x / 10) (digit (x % 10) ∷ [])
        = said-append 0 (decimal_in d (x / 10)) (digit (x % 10) ∷ []) ∙ ap (λ (a : ℕ). said a (digit (x % 10) ∷ [])) (r l) in
        rw (le-ltb x 10 l) (e ∙ omega arith)
    go (no n) r = rw (lt-ltb x 10 (omega arith)) (omega arith)

pub decimal_says : (x : ℕ) → said 0 (decimal x) ≡ x
unfolding decimal
decimal_says x = said_in x x (omega arith)

leads_in : (d x : ℕ) → 1 ≤ x → (1 ≤ length (decimal_in d x)) × (48 < get_or (decimal_in d x) 0 0)
leads_in zero x h = (omega arith, omega arith)
leads_in (suc d) x h = go (dec_le 10 x) (λ l. leads_in d (x / 10) (omega arith))
  where
    go : Dec (10 ≤ x) → (10 ≤ x → (1 ≤ length (decimal_in d (x / 10))) × (48 < get_or (decimal_in d (x / 10)) 0 0))
        → (1 ≤ length (decimal_in (suc d) x)) × (48 < get_or (decimal_in (suc d) x) 0 0)
    go (yes l) r =
        let (n, k) = r l in
        rw (le-ltb x 10 l) (
          omega (arith, length-append (decimal_in d (x / 10)) (digit (x % 10) ∷ []), n),
          rw (get_or-append (decimal_in d (x / 10)) (digit (x % 10) ∷ []) 0 0 n) k,
        )
    go (no n) r = rw (lt-ltb x 10 (omega arith)) (omega arith, omega arith)

pub decimal-leads : (x : ℕ) → 1 ≤ x → 48 < get_or (decimal x) 0 0
unfolding decimal
decimal-leads x h = (leads_in x x h).1
