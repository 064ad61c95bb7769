-- Laws of the run: what a writer from the first slot on leaves.
use mathlib.Core.Path.{◌≡◌, ap, ◌∙◌}
use mathlib.Core.List.{List, ◌++◌}
use Rattle.std.specs.Prelude.{Option, Result}
use Rattle.std.specs.Option.{unwrap_or}
use Prim.Native.Nat.{ℕ, ◌^◌, ◌≤◌, ◌<◌}
use native.Mathlib.Nat.{zero-add}
use native.Mathlib.Omega.{arith}
use borrow.Author.Tests.{le-leb}
use lib.ListN.{length, get_or, take, drop}
use lib.Seq.{take_at}
use Rattle.lines.specs.Appended.{Appends}
use Rattle.sheet.specs.Sheet.{sheet_of}
use Rattle.sheet_run.specs.Output.{printed, output_of}
use Rattle.sheet_run.specs.Run.{Ran}
use Rattle.lines.specs.Put.{max_output, Put}
use Rattle.sheet.specs.declared.answer.Fault.{Fault}
use Rattle.sheet.specs.declared.answer.Sheet.{Sheet}
use Rattle.sheet_run.proofs.RefusalMeaning.{every_word-shown}
use Rattle.sheet_run.proofs.ClosingMeaning.{output_closed}

module _ (sheet before : List ℕ) where
  -- the first slots are the output
  output_there : {r : ℕ} {after : List ℕ} → max_output ≤ length before → Appends before 0 (output_of sheet) after r → take r after ≡ output_of sheet
  output_there {r} {after} h B =
      ap (take r) B.list ∙ take_at (output_of sheet) _ r (omega (arith, B.ends))

  pub ran : ((i : ℕ) → get_or sheet i 0 < 2 ^ 8) → {a : Result Sheet Fault} {r : ℕ} {after : List ℕ} → max_output ≤ length before → a ≡ sheet_of sheet
      → Appends before 0 (printed sheet a) after r → Ran sheet before r after
  unfolding output_of
  ran f {a} {r} {after} h e A =
      let B : Appends before 0 (output_of sheet) after r = rw e at A in
      let l = le-leb max_output (length before) h in
      record {
        count = rw l (B.ends ∙ zero-add (length (output_of sheet)));
        list = rw l (B.list ∙ ap (λ (m : ℕ). output_of sheet ++ drop m before) (zero-add (length (output_of sheet))));
        closing = λ _. rw (output_there h B) (output_closed sheet);
        every_word = λ _. rw (output_there h B) (every_word-shown sheet f);
      }

  pub ran_put : ((i : ℕ) → get_or sheet i 0 < 2 ^ 8) → {a : Result Sheet Fault} {r : Option ℕ} {after : List ℕ} → max_output ≤ length before
      → a ≡ sheet_of sheet → Put (max_output ≤ length before) before (printed sheet a) after r → Ran sheet before (unwrap_or r 0) after
  ran_put f h e P = let (m, some, A) = P.puts h in rw some (ran f h e A)
