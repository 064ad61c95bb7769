-- 02, No. 1: the closing line, which says how the words of a batch ended.
use Rattle.std.specs.Prelude.{List, [], ◌∷◌, ◌++◌, ℕ}
use Rattle.lines.specs.Decimal.{decimal}
use Rattle.lines.specs.Text.{written, line_feed}
use Rattle.tally.specs.declared.tally.Tally.{Tally}

-- "clean C mended M far F places P"
unfoldable pub closing_line : Tally → List ℕ
closing_line t =
    written "clean " ++ decimal t.clean ++ written " mended " ++ decimal t.mended ++ written " far " ++ decimal t.far
    ++ written " places " ++ decimal t.places ++ line_feed ∷ []
