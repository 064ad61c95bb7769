-- What a writer leaves: bytes put into a list from a position on.
use Rattle.std.specs.Prelude.{◌≡◌, List, ◌++◌, ℕ, ◌+◌, ◌≤◌, length, take, drop}

-- the bytes stand from `at` on, every other slot is as it was, and next is the position after them
pub record Appends (before : List ℕ) (at : ℕ) (bytes after : List ℕ) (next : ℕ) : Type 0 where
  pub fits : at + length bytes ≤ length before
  pub list : after ≡ take at before ++ bytes ++ drop (at + length bytes) before
  pub ends : next ≡ at + length bytes
