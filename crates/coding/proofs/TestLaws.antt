-- Computed tests, and the rules that they stand for. Assumes nothing.
use mathlib.Core.List.{List, [], ◌∷◌}
use mathlib.Core.Bool.{Bool, true, false, ◌&&◌}
use Prim.Native.Nat.{ℕ, zero, suc, ◌/◌, ◌%◌, ◌<◌}
use native.Mathlib.Omega.{arith}
use lib.Dec.{T}
use lib.ListN.{length, get_or}
use lib.Bits.{xor_comm}
use Rattle.coding.specs.Word.{◌⊕◌}
use Rattle.coding.specs.Matrix.{sel, encode}
use Rattle.coding.proofs.WordLaws.{xor_assoc}

pub and_left : (a b : Bool) → T (a && b) → T a
and_left true b t = tt
and_left false b t = t

pub and_right : (a b : Bool) → T (a && b) → T b
and_right true b t = t
and_right false b t = absurd t

-- the test passes at each entry
abbrev pub every_entry : (ℕ → Bool) → List ℕ → Bool
every_entry p [] = true
every_entry p (x ∷ xs) = p x && every_entry p xs

pub every_entry_lem : (p : ℕ → Bool) (xs : List ℕ) → T (every_entry p xs) → (i : ℕ) → i < length xs → T (p (get_or xs i 0))
every_entry_lem p [] t i h = absurd (omega arith)
every_entry_lem p (x ∷ xs) t zero h = and_left (p x) (every_entry p xs) t
every_entry_lem p (x ∷ xs) t (suc i) h = every_entry_lem p xs (and_right (p x) (every_entry p xs) t) i (omega arith)

-- the test passes at x plus each sum of the rows, computed as a tree of sums
abbrev pub every_sum : (ℕ → Bool) → List ℕ → ℕ → Bool
every_sum p [] x = p x
every_sum p (r ∷ rows) x = every_sum p rows x && every_sum p rows (r ⊕ x)

pub every_sum_lem : (p : ℕ → Bool) (rows : List ℕ) (x : ℕ) → T (every_sum p rows x) → (u : ℕ) → T (p (encode rows u ⊕ x))
every_sum_lem p [] x t u = t
every_sum_lem p (r ∷ rows) x t u =
    go (u % 2) (every_sum_lem p rows x (and_left (every_sum p rows x) (every_sum p rows (r ⊕ x)) t) (u / 2))
    (every_sum_lem p rows (r ⊕ x) (and_right (every_sum p rows x) (every_sum p rows (r ⊕ x)) t) (u / 2))
  where
    go : (c : ℕ) → T (p (encode rows (u / 2) ⊕ x)) → T (p (encode rows (u / 2) ⊕ (r ⊕ x))) → T (p ((sel c r ⊕ encode rows (u / 2)) ⊕ x))
    go zero a b = a
    go (suc c) a b = rw (xor_comm r (encode rows (u / 2)), xor_assoc (encode rows (u / 2)) r x) b
