-- Texts of the output, as bytes.
use Rattle.std.specs.Prelude.{List, [], ◌∷◌, ℕ}
use Prim.Native.Char.{code}
use Prim.Native.String.{String, [] as []ˢ, ◌∷◌ as ◌∷ˢ◌}

-- the numbers of a text's characters, which below 128 are its bytes
abbrev pub written : String → List ℕ
written []ˢ = []
written (c ∷ˢ s) = code c ∷ written s

abbrev pub space : ℕ
space = 32

abbrev pub line_feed : ℕ
line_feed = 10
