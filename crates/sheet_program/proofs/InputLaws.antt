-- Laws of the bytes that are read: one more than a sheet may have decide the output.
use mathlib.Core.Path.{◌≡◌, refl, sym, ap, ◌∙◌}
use mathlib.Core.List.{List}
use Prim.Native.Nat.{ℕ, ◌≤◌, ◌<◌}
use native.Mathlib.Decide.{dec_le}
use native.Mathlib.Omega.{arith}
use borrow.Author.Tests.{lt-ltb}
use lib.ListN.{length, take}
use lib.Seq.{take_all, length-take-le}
use Rattle.sheet.specs.Sheet.{max_sheet, sheet_of}
use Rattle.sheet_run.specs.Output.{output_of}
use Rattle.lines.specs.Line.{refused_line}
use Rattle.sheet_program.specs.Inner.Enough.{Enough}

too_long : (s : List ℕ) → max_sheet < length s → output_of s ≡ refused_line 12 max_sheet
unfolding output_of sheet_of
too_long s h = rw (lt-ltb max_sheet (length s) h) refl

pub enough : (size : ℕ) → max_sheet < size → Enough size
enough size room = record { decides = λ s. go s (dec_le (length s) size) }
  where
    go : (s : List ℕ) → Dec (length s ≤ size) → output_of (take size s) ≡ output_of s
    go s (yes h) = ap output_of (take_all size s h)
    go s (no h) =
        let long : length (take size s) ≡ size = length-take-le size s (omega arith) in
        too_long (take size s) (omega arith) ∙ sym (too_long s (omega arith))
