-- What the loop over a batch writes: one more digit of each syndrome.
use Rattle.std.specs.Prelude.{List, ℕ, ◌*◌, ◌%◌, ◌^◌, get_or}
use Rattle.coding.specs.Word.{◌⊕◌, parity}

-- entry v moved up by one place, with the parity of word v by the row as place 0
abbrev pub joined_by : ℕ → List ℕ → List ℕ → ℕ → ℕ
joined_by row words list v = (get_or list v 0 * 2 ^ 1) % 2 ^ 32 ⊕ parity (get_or words v 0) row
