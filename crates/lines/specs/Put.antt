-- What printing leaves in a lent list: bytes from its first slot on, or nothing.
use Rattle.std.specs.Prelude.{◌≡◌, List, ℕ, Option, Some, None}
use Rattle.lines.specs.Appended.{Appends}

-- room for the longest output, at n = 32 and 512 words too
abbrev pub max_output : ℕ
max_output = 20480

-- where they can be printed the bytes stand in the first slots, the others are as they were, and r counts them; else all are, and r is none
pub record Put (can : Type 0) (before bytes after : List ℕ) (r : Option ℕ) : Type 0 where
  pub puts : can → (m : ℕ) × (r ≡ Some m) × Appends before 0 bytes after m
  pub keeps : (can → ⊥) → (after ≡ before) × (r ≡ None)
