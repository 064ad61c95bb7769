-- What the number of steps in `sheet_from` means: with a step for each byte left, more of them change nothing.
use mathlib.Core.Path.{◌≡◌, refl, sym, ◌∙◌}
use mathlib.Core.List.{List}
use Rattle.std.specs.Prelude.{Option, Some, Result, Ok, Err}
use Prim.Native.Nat.{ℕ, zero, suc, ◌+◌, ◌≤◌, ◌<◌}
use native.Mathlib.Decide.{dec_le}
use native.Mathlib.Omega.{arith}
use borrow.Author.Tests.{lt-ltb}
use lib.ListN.{length, set}
use Rattle.sheet.specs.Field.{field_at}
use Rattle.sheet.specs.Sheet.{sheet_from}
use Rattle.sheet.specs.declared.field.Content.{Content}
use Rattle.sheet.specs.declared.answer.Fault.{Fault}
use Rattle.sheet.specs.declared.field.Field.{Field}
use Rattle.sheet.proofs.FieldLaws.{good, stops_at, at_end}

pub enough_steps : (d e : ℕ) (s : List ℕ) (at last : ℕ) (contents : List (Option Content)) → length s ≤ d + at → length s ≤ e + at
    → sheet_from d s at last contents ≡ sheet_from e s at last contents
unfolding sheet_from
enough_steps zero e s at last contents h k = sym (at_end e s at last contents (omega arith))
enough_steps (suc d) zero s at last contents h k = at_end (suc d) s at last contents (omega arith)
enough_steps (suc d) (suc e) s at last contents h k =
    go (dec_le (length s) at) (field_at s at last) refl (λ next tag contents l. enough_steps d e s next tag contents (omega arith) (omega arith))
  where
    go : Dec (length s ≤ at) → (f : Result Field Fault) → field_at s at last ≡ f
        → ((next tag : ℕ) (contents : List (Option Content)) → at < next → sheet_from d s next tag contents ≡ sheet_from e s next tag contents)
        → sheet_from (suc d) s at last contents ≡ sheet_from (suc e) s at last contents
    go (yes l) f g rec = at_end (suc d) s at last contents l ∙ sym (at_end (suc e) s at last contents l)
    go (no l) (Err c) g rec =
        stops_at (suc d) s at last contents c (omega arith) (omega arith) g
        ∙ sym (stops_at (suc e) s at last contents c (omega arith) (omega arith) g)
    go (no l) (Ok f) g rec =
        let G = good s at last f (omega arith) g in
        rw (lt-ltb at (length s) (omega arith), g) (rec f.next f.tag (set contents f.tag (Some f.content)) (omega (arith, G.longer)))
