-- 02, No. 1 and No. 7: what an output says, read from its bytes alone: its last line what the others show, and what is never refused.
use Rattle.std.specs.Prelude.{◌≡◌, Ok, List, [], ◌∷◌, ◌++◌, map, ℕ, ◌+◌, length}
use Rattle.words.specs.Limits.{width}
use Rattle.sheet.specs.Sheet.{sheet_of}
use Rattle.sheet.specs.declared.answer.Sheet.{Sheet}
use Rattle.lines.specs.Decimal.{decimal}
use Rattle.lines.specs.Text.{written, space, line_feed}
use Rattle.tally.specs.Tally.{tally_of}
use Rattle.lines.specs.Shown.{cut_at, after_blank, shown, Begins}

-- ---- the last line

-- the lines between the first and the last are those of the words; the last has four names, each with the number of the endings that these
-- lines show, added up; and clean, mended and far words add to the words received
pub record ClosingShows (sheet out : List ℕ) : Type 0 where
  pub first : List ℕ
  pub words : List (List ℕ)
  pub last : List ℕ
  pub lines : cut_at line_feed out ≡ first ∷ (words ++ last ∷ [])
  pub says : let t = tally_of (map (λ line. shown (after_blank line)) words) in
      cut_at space last
      ≡ written "clean" ∷ decimal t.clean ∷ written "mended" ∷ decimal t.mended ∷ written "far" ∷ decimal t.far
      ∷ written "places" ∷ decimal t.places ∷ []
  pub adds : let t = tally_of (map (λ line. shown (after_blank line)) words) in t.clean + t.mended + t.far ≡ length words
  pub received : (h : Sheet) → sheet_of sheet ≡ Ok h → length words ≡ h.words.count

-- so it is in every output that is no refusal
abbrev pub Closed : (sheet out : List ℕ) → Type 0
Closed sheet out = (Begins (written "refused") out → ⊥) → ClosingShows sheet out

-- ---- a refusal

-- 02, No. 7: of a sheet with n = 32 no row and no word is refused
abbrev pub EveryWordShown : (sheet out : List ℕ) → Type 0
EveryWordShown sheet out =
    (h : Sheet) → sheet_of sheet ≡ Ok h → h.n ≡ width → (Begins (written "refused 3 ") out → ⊥) × (Begins (written "refused 7 ") out → ⊥)
