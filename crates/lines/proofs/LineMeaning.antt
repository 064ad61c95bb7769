-- What the lines mean: each is a text and a line feed, and what the closing line says.
use mathlib.Core.Path.{◌≡◌, refl, ap, ◌∙◌}
use mathlib.Core.Bool.{true}
use mathlib.Core.List.{List, [], ◌∷◌, ◌++◌, append_assoc}
use Prim.Native.Nat.{ℕ, ◌-◌, ◌/◌, ◌<◌}
use native.Mathlib.Omega.{arith}
use lib.ListN.{take}
use Rattle.coding.specs.Word.{bit}
use Rattle.outcomes.specs.declared.ending.Outcome.{Outcome}
use Rattle.outcomes.specs.declared.ending.Outcome.TheVariants.{Clean, Mended, Far}
use Rattle.tally.specs.declared.tally.Tally.{Tally}
use Rattle.lines.specs.Decimal.{decimal}
use Rattle.lines.specs.Text.{written, space, line_feed}
use Rattle.lines.specs.Line.{refused_line, code_line, digits_of, ending}
use Rattle.lines.specs.Closing.{closing_line}
use Rattle.lines.specs.Shown.{cut_at}
use Rattle.lines.proofs.ShownLaws.{Without, without-append, cut_piece, cut_last}
use Rattle.lines.proofs.ShownLaws.{digits-without, decimal_long, decimal-without, lacks, lacks-without}

-- ---- a line is its text and a line feed, which the text has not

pub line_first : (line text rest : List ℕ) → line ≡ text ++ line_feed ∷ [] → Without line_feed text → cut_at line_feed (line ++ rest) ≡ text ∷ cut_at line_feed rest
line_first line text rest e h =
    ap (λ (l : List ℕ). cut_at line_feed (l ++ rest)) e ∙ ap (cut_at line_feed) (append_assoc text (line_feed ∷ []) rest) ∙ cut_piece line_feed text rest h

abbrev pub code_text : ℕ → ℕ → ℕ → List ℕ
code_text n k d = decimal n ++ (space ∷ (decimal k ++ (space ∷ (decimal d ++ (space ∷ decimal ((d - 1) / 2))))))

pub code_text_lem : (n k d : ℕ) → code_line n k d ≡ code_text n k d ++ line_feed ∷ []
unfolding code_line
code_text_lem n k d = simp append_assoc

decimal_then : (x : ℕ) (rest : List ℕ) → Without line_feed rest → Without line_feed (decimal x ++ rest)
decimal_then x rest h = without-append line_feed (decimal x) rest (decimal-without line_feed (omega arith) x) h

pub code_without : (n k d : ℕ) → Without line_feed (code_text n k d)
code_without n k d =
    decimal_then n _ (
      λ e. omega arith,
      decimal_then k _ (
        λ e. omega arith,
        decimal_then d _ (
          λ e. omega arith,
          decimal-without line_feed (omega arith) ((d - 1) / 2),
        ),
      ),
    )

pub digits_of_without : (x : ℕ) → x < 48 → (n w : ℕ) → Without x (digits_of n w)
unfolding digits_of
digits_of_without x h n w = digits-without x h (bit w) n

pub ending-without : (o : Outcome ℕ) → Without line_feed (ending o)
ending-without (Clean c) = decimal-without line_feed (omega arith) 0
ending-without (Mended c d) = decimal-without line_feed (omega arith) d
ending-without Far = lacks-without line_feed (written "far") refl

abbrev pub closing_text : Tally → List ℕ
closing_text t =
    written "clean " ++ (decimal t.clean ++ (written " mended " ++ (decimal t.mended ++ (written " far " ++ (decimal t.far
    ++ (written " places " ++ decimal t.places))))))

pub closing_text_lem : (t : Tally) → closing_line t ≡ closing_text t ++ line_feed ∷ []
unfolding closing_line
closing_text_lem t = simp append_assoc

pub closing_without : (t : Tally) → Without line_feed (closing_text t)
closing_without t =
    let p = written " places " ++ decimal t.places in
    let f = written " far " ++ (decimal t.far ++ p) in
    let m = written " mended " ++ (decimal t.mended ++ f) in
    named (written "clean ") t.clean m refl (named (written " mended ") t.mended f refl (named (written " far ") t.far p refl
    (without-append line_feed (written " places ") (decimal t.places) (lacks-without line_feed (written " places ") refl)
    (decimal-without line_feed (omega arith) t.places))))
  where
    named : (name : List ℕ) (x : ℕ) (rest : List ℕ) → lacks line_feed name ≡ true → Without line_feed rest → Without line_feed (name ++ (decimal x ++ rest))
    named name x rest e h = without-append line_feed name (decimal x ++ rest) (lacks-without line_feed name e) (decimal_then x rest h)

-- ---- how a refusal begins, and what the closing line says

pub refused_begins : (number value : ℕ) → take 7 (refused_line number value) ≡ written "refused"
unfolding refused_line
refused_begins number value = refl

-- the last line cut at its blanks
pub closing_says : (t : Tally)
    → cut_at space (closing_text t)
    ≡ written "clean" ∷ decimal t.clean ∷ written "mended" ∷ decimal t.mended ∷ written "far" ∷ decimal t.far
    ∷ written "places" ∷ decimal t.places ∷ []
closing_says t =
    rw (
      piece t.clean (written "mended " ++ (decimal t.mended ++ (written " far " ++ (decimal t.far ++ (written " places " ++ decimal t.places))))),
      piece t.mended (written "far " ++ (decimal t.far ++ (written " places " ++ decimal t.places))),
      piece t.far (written "places " ++ decimal t.places),
      rest t.places,
    )
  where
    piece : (x : ℕ) (rest : List ℕ) → cut_at space (decimal x ++ space ∷ rest) ≡ decimal x ∷ cut_at space rest
    piece x rest = cut_piece space (decimal x) rest (decimal-without space (omega arith) x)

    rest : (x : ℕ) → cut_at space (decimal x) ≡ decimal x ∷ []
    rest x = cut_last space (decimal x) (decimal_long x) (decimal-without space (omega arith) x)
