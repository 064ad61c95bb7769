-- Laws of decimal digits: the steps, and how many there are.
use mathlib.Core.Path.{◌≡◌, refl, ap, ◌∙◌}
use mathlib.Core.List.{List, [], ◌∷◌, ◌++◌}
use Prim.Native.Nat.{ℕ, zero, suc, ◌+◌, ◌/◌, ◌%◌, ◌^◌, ◌≤◌, ◌<◌}
use native.Mathlib.Nat.{pow-suc, div-lt_iff_lt-mul, lt_of_lt_of_le}
use native.Mathlib.Decide.{dec_le}
use native.Mathlib.Omega.{arith}
use borrow.Author.Tests.{lt-ltb, le-ltb}
use lib.Dec.{lit≤}
use lib.ListN.{length, length-append}
use Rattle.lines.specs.Decimal.{digit, decimal_in, decimal}

-- enough steps are enough
decimal_in_same : (d e x : ℕ) → x ≤ d → x ≤ e → decimal_in d x ≡ decimal_in e x
decimal_in_same zero zero x h k = refl
decimal_in_same zero (suc e) x h k = rw (lt-ltb x 10 (omega arith)) refl
decimal_in_same (suc d) zero x h k = rw (lt-ltb x 10 (omega arith)) refl
decimal_in_same (suc d) (suc e) x h k = go (dec_le 10 x) (λ l. decimal_in_same d e (x / 10) (omega arith) (omega arith))
  where
    go : Dec (10 ≤ x) → (10 ≤ x → decimal_in d (x / 10) ≡ decimal_in e (x / 10)) → decimal_in (suc d) x ≡ decimal_in (suc e) x
    go (yes l) r = rw (le-ltb x 10 l) (ap (λ (y : List ℕ). y ++ digit (x % 10) ∷ []) (r l))
    go (no n) r = rw (lt-ltb x 10 (omega arith)) refl

pub decimal-small : (x : ℕ) → x < 10 → decimal x ≡ digit x ∷ []
unfolding decimal
decimal-small zero h = refl
decimal-small (suc x) h = rw (lt-ltb (suc x) 10 h) refl

pub decimal_more : (x : ℕ) → 10 ≤ x → decimal x ≡ decimal (x / 10) ++ digit (x % 10) ∷ []
unfolding decimal
decimal_more zero h = absurd (omega arith)
decimal_more (suc x) h =
    rw (le-ltb (suc x) 10 h)
    (ap (λ (y : List ℕ). y ++ digit (suc x % 10) ∷ []) (decimal_in_same x (suc x / 10) (suc x / 10) (omega arith) (omega arith)))

-- the last digit is one more
pub decimal_tenth : (x : ℕ) → 10 ≤ x → length (decimal x) ≡ length (decimal (x / 10)) + 1
decimal_tenth x h = ap length (decimal_more x h) ∙ length-append (decimal (x / 10)) (digit (x % 10) ∷ [])

-- a number below 10 ^ d has at most d digits, and one at least
decimal-digits : (d x : ℕ) → x < 10 ^ suc d → length (decimal x) ≤ suc d
decimal-digits zero x h = rw (decimal-small x h) (omega arith)
decimal-digits (suc d) x h = go (dec_le 10 x) (decimal-digits d (x / 10) ((div-lt_iff_lt-mul {k = 10} (omega arith)).1 (rw pow-suc at h)))
  where
    go : Dec (10 ≤ x) → length (decimal (x / 10)) ≤ suc d → length (decimal x) ≤ suc (suc d)
    go (yes l) t = rw (decimal_more x l) (omega (arith, length-append (decimal (x / 10)) (digit (x % 10) ∷ []), t))
    go (no n) t = rw (decimal-small x (omega arith)) (omega arith)

pub decimal-word : (x : ℕ) → x < 2 ^ 64 → length (decimal x) ≤ 20
decimal-word x h = decimal-digits 19 x (lt_of_lt_of_le h (lit≤ tt))

pub decimal_byte : (x : ℕ) → x < 2 ^ 8 → length (decimal x) ≤ 3
decimal_byte x h = decimal-digits 2 x (lt_of_lt_of_le h (lit≤ tt))
