-- Laws of the lines: the parts that the writers put, one after the other, are the line.
use mathlib.Core.Path.{◌≡◌, sym, ap, ◌∙◌}
use mathlib.Core.List.{List, [], ◌∷◌, ◌++◌, append_assoc, append-nil}
use Prim.Native.Nat.{ℕ, zero, suc, ◌+◌, ◌-◌, ◌/◌, ◌<◌}
use native.Mathlib.Nat.{le_of_suc-le-suc}
use native.Mathlib.Numerals.{add-one}
use native.Mathlib.Omega.{arith}
use lib.ListN.{length, get_or, take}
use Rattle.coding.specs.Word.{bit}
use Rattle.coding.proofs.ListLaws.{length-tabulate, get_d_tabulate}
use Rattle.lines.specs.Decimal.{digit, decimal}
use Rattle.lines.specs.Text.{written, space, line_feed}
use Rattle.lines.specs.Closing.{closing_line}
use Rattle.lines.specs.Line.{refused_line, code_line, digits_of, ending}
use Rattle.lines.specs.Batch.{slot_line, slot_lines}
use Rattle.tally.specs.Slots.{slot_outcome}
use Rattle.tally.specs.declared.tally.Tally.{Tally}

pub refused_parts : (number value : ℕ)
    → written "refused " ++ (decimal number ++ space ∷ []) ++ (decimal value ++ line_feed ∷ []) ≡ refused_line number value
unfolding refused_line
refused_parts number value = simp append_assoc

pub code_parts : (n k d t : ℕ) → t ≡ (d - 1) / 2
    → (decimal n ++ space ∷ []) ++ (decimal k ++ space ∷ []) ++ (decimal d ++ space ∷ []) ++ (decimal t ++ line_feed ∷ []) ≡ code_line n k d
unfolding code_line
code_parts n k d t e = rw e (simp append_assoc)

pub slot_parts : (n c count : ℕ) → digits_of n c ++ space ∷ [] ++ ending (slot_outcome count) ++ line_feed ∷ [] ≡ slot_line n c count
unfolding slot_line
slot_parts n c count = simp append_assoc

pub closing_parts : (t : Tally)
    → written "clean " ++ (decimal t.clean ++ space ∷ []) ++ (written "mended " ++ (decimal t.mended ++ space ∷ []))
    ++ (written "far " ++ (decimal t.far ++ space ∷ [])) ++ (written "places " ++ (decimal t.places ++ line_feed ∷ []))
    ≡ closing_line t
unfolding closing_line
closing_parts t = simp append_assoc

pub length_digits : (n w : ℕ) → length (digits_of n w) ≡ n
unfolding digits_of
length_digits n w = length-tabulate _ n

pub digit_of : (n w p : ℕ) → p < n → get_or (digits_of n w) p 0 ≡ digit (bit w p)
unfolding digits_of
digit_of n w p h = get_d_tabulate _ n p h

-- a line more
slot_lines-suc : (n i : ℕ) (cs ds : List ℕ) → i < length cs → i < length ds
    → slot_lines n (take i cs) (take i ds) ++ slot_line n (get_or cs i 0) (get_or ds i 0) ≡ slot_lines n (take (suc i) cs) (take (suc i) ds)
unfolding slot_lines
slot_lines-suc n i [] ds h k = absurd (omega arith)
slot_lines-suc n i (c ∷ cs) [] h k = absurd (omega arith)
slot_lines-suc n zero (c ∷ cs) (d ∷ ds) h k = sym (append-nil (slot_line n c d))
slot_lines-suc n (suc i) (c ∷ cs) (d ∷ ds) h k =
    append_assoc (slot_line n c d) (slot_lines n (take i cs) (take i ds)) (slot_line n (get_or cs i 0) (get_or ds i 0))
    ∙ ap (λ (l : List ℕ). slot_line n c d ++ l) (slot_lines-suc n i cs ds (le_of_suc-le-suc h) (le_of_suc-le-suc k))

pub slot_lines_more : (n i : ℕ) (cs ds : List ℕ) → i < length cs → i < length ds
    → slot_lines n (take i cs) (take i ds) ++ slot_line n (get_or cs i 0) (get_or ds i 0) ≡ slot_lines n (take (i + 1) cs) (take (i + 1) ds)
slot_lines_more n i cs ds h k = rw add-one (slot_lines-suc n i cs ds h k)
