-- What a writer leaves.
use Rattle.std.specs.Prelude.{◌≡◌, List, ℕ, ◌+◌, ◌≤◌, length}
use Rattle.lines.specs.Appended.{Appends}
use Rattle.lines.specs.declared.print.Writer.{Writer}

-- so many bytes have room behind those put
abbrev pub Room : ℕ → Writer → Type 0
Room m w = w.at + m ≤ length w.out.now

-- the bytes are put behind those put before, in the same list
pub record Wrote (before : Writer) (bytes : List ℕ) (after : Writer) : Type 0 where
  pub lent : after.out.ghost_name ≡ before.out.ghost_name
  pub puts : Appends before.out.now before.at bytes after.out.now after.at
