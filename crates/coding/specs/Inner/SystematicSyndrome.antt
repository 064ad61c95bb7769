-- The syndrome by a systematic matrix, from its check part.
use Rattle.std.specs.Prelude.{List, ℕ, ◌/◌, ◌%◌, ◌^◌}
use Rattle.coding.specs.Word.{◌⊕◌}
use Rattle.coding.specs.Matrix.{encode}

-- the syndrome of a word by the check matrix [I | P'], P' the transpose of P: its check places, plus those of its message places
abbrev pub systematic_syndrome : ℕ → List ℕ → ℕ → ℕ
systematic_syndrome m P w = (w % 2 ^ m) ⊕ encode P (w / 2 ^ m)
