-- Laws of writers: one after the other, and how far they are.
use mathlib.Core.Path.{◌≡◌, refl, ◌∙◌}
use mathlib.Core.List.{List, [], ◌++◌}
use Prim.Native.Nat.{ℕ, ◌+◌, ◌≤◌}
use lib.ListN.{length}
use Rattle.std.specs.Prelude.{Some}
use Rattle.lines.specs.Put.{Put}
use Rattle.lines.specs.Inner.Wrote.{Wrote}
use Rattle.lines.specs.declared.print.Writer.{Writer}
use Rattle.lines.proofs.AppendLaws as append

-- no byte
pub wrote_none : (w : Writer) → w.at ≤ length w.out.now → Wrote w [] w
wrote_none w h = record { lent = refl; puts = append.appends_none w.out.now w.at h }

module _ {a b : Writer} {x : List ℕ} (A : Wrote a x b) where
  -- the next writer's bytes come after
  pub then : {c : Writer} {y : List ℕ} → Wrote b y c → Wrote a (x ++ y) c
  then B = record { lent = B.lent ∙ A.lent; puts = append.then A.puts B.puts }

  -- the bytes by another name
  pub wrote_as : (y : List ℕ) → x ≡ y → Wrote a y b
  wrote_as y e = record { lent = A.lent; puts = append.appends_as A.puts y e }

  pub same_length : length b.out.now ≡ length a.out.now
  same_length = append.appends-length A.puts

  pub ends : b.at ≡ a.at + length x
  ends = A.puts.ends

-- a list is lent to a writer, which begins at its first slot, and given back
pub put_lent : {can : Type 0} {start end : Writer} {bytes after : List ℕ} → can → Wrote start bytes end → start.at ≡ 0 → after ≡ end.out.now
    → Put can start.out.now bytes after (Some end.at)
put_lent c W z e = append.put_all c (rw (e, ← z) W.puts)
