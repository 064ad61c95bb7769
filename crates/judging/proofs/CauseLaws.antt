-- Laws of the causes 1 to 5, and of what is known past them.
use mathlib.Core.Path.{◌≡◌, refl, sym, ap, ap₂, ◌∙◌}
use mathlib.Core.List.{List}
use mathlib.Core.Bool.{Bool}
use Prim.Native.Nat.{ℕ, ◌+◌, ◌-◌, ◌*◌, ◌/◌, ◌≤◌, ◌<◌}
use native.Mathlib.Omega.{arith}
use lib.Dec.{leb}
use borrow.Author.Tests.{leb-true, le-leb, lt-leb}
use Rattle.coding.specs.Weight.{dmin}
use Rattle.coding.specs.Lists.{padded}
use Rattle.coding.specs.Check.{checks}
use Rattle.words.specs.Limits.{max_checks, width}
use Rattle.answers.specs.Refusal.{and_then, Between, Never, Answer, done, answered}
use Rattle.words.specs.Widest.{EveryRow, EveryWord}
use Rattle.words.specs.Lists.{list_answer}
use Rattle.coding.specs.Matrix.{Inside}
use Rattle.words.proofs.WordListLaws.{list_passes}
use Rattle.words.specs.Accepted.{matrix_answer, Accepted}
use Rattle.words.proofs.AcceptedLaws.{accepted_in, matrix-numbered}
use Rattle.answers.specs.declared.answer.Refusal.{Refusal}
use Rattle.answers.specs.declared.answer.Refusal.TheVariants.{RadiusTooLarge}
use Rattle.answers.proofs.AnswerLaws.{unless_done, and_then_done, stays, goes, ok_answered}
use Rattle.answers.proofs.AnswerLaws.{Numbered, unless-numbered, and_then-numbered, numbered_as, never, never_of, then_never}
use Rattle.words.proofs.ShapeLaws.{rows_first}
use Rattle.judging.specs.Known.{asked, known_of, KnownPast}
use Rattle.judging.specs.declared.matrix.Known.{Known}
use Rattle.judging.specs.Causes.{radius_answer, code_answer}
use Rattle.outcomes.specs.declared.ending.Reading.{Reading}
use Rattle.outcomes.specs.declared.ending.Reading.TheVariants.{Nearest, Within}
use Rattle.std.specs.Prelude.{Some, Result, Ok, Err}

-- ---- cause 5 by half of dmin - 1

pub radius_large : (r d : ℕ) → 1 ≤ d → (d - 1) / 2 < r → Err RadiusTooLarge ≡ radius_answer (Within r) d
radius_large r d h l = simp (lt-leb (2 * r + 1) d (omega arith))

pub radius_fits : (r d : ℕ) → 1 ≤ d → r ≤ (d - 1) / 2 → done ≡ radius_answer (Within r) d
radius_fits r d h l = simp (le-leb (2 * r + 1) d (omega arith))

pub radius_in : (r d : ℕ) → radius_answer (Within r) d ≡ done → 2 * r + 1 ≤ d
radius_in r d e = leb-true (2 * r + 1) d (unless_done (leb (2 * r + 1) d) RadiusTooLarge done e).0

-- ---- the groups in order

-- past the causes of the matrix it is accepted
pub accepted_past : (n k : ℕ) (rows : List ℕ) (reading : Reading) (later : Answer) → and_then (code_answer n k rows reading) later ≡ done → Accepted n k rows
unfolding code_answer
accepted_past n k rows reading later e =
    accepted_in n k rows (and_then_done (matrix_answer n k rows) _ (and_then_done (code_answer n k rows reading) later e).0).0

module _ (n k : ℕ) (rows : List ℕ) (reading : Reading) where
  -- the matrix refuses, or cause 5 decides
  pub at_matrix : (c : Refusal) → matrix_answer n k rows ≡ Err c → matrix_answer n k rows ≡ code_answer n k rows reading
  unfolding code_answer
  at_matrix c e = stays (matrix_answer n k rows) _ c e

  pub at_radius : matrix_answer n k rows ≡ done → radius_answer reading (dmin rows) ≡ code_answer n k rows reading
  unfolding code_answer
  at_radius e = goes (matrix_answer n k rows) _ e

  -- within a radius, by the minimum distance
  pub at_within : (r d : ℕ) → reading ≡ Within r → d ≡ dmin rows → matrix_answer n k rows ≡ done → radius_answer (Within r) d ≡ code_answer n k rows reading
  at_within r d e q m = ap₂ radius_answer (sym e) q ∙ at_radius m

  -- else the matrix alone is asked
  pub at_nearest : reading ≡ Nearest → code_answer n k rows reading ≡ matrix_answer n k rows
  unfolding code_answer
  at_nearest e = rw e (last (matrix_answer n k rows))
    where
      last : (a : Answer) → and_then a done ≡ a
      last done = refl
      last (Err c) = refl

  pub known_nearest : (measure : Bool) (r : Result Known Refusal) → reading ≡ Nearest → KnownPast measure n rows (matrix_answer n k rows) r
      → KnownPast (asked reading measure) n rows (code_answer n k rows reading) r
  known_nearest measure r e K =
      K ∙ ap₂ (λ (a : Answer) (b : Bool). answered a (known_of b n rows)) (sym (at_nearest e)) (sym (ap (λ (x : Reading). asked x measure) e))

  pub known_within : (measure : Bool) (r : ℕ) → reading ≡ Within r → code_answer n k rows reading ≡ done → (cs : List ℕ) (d : ℕ)
      → cs ≡ padded max_checks (checks n rows) → d ≡ dmin rows
      → KnownPast (asked reading measure) n rows (code_answer n k rows reading) (Ok (record { checks = cs; dmin = Some d }))
  known_within measure r e o cs d p q =
      ap₂ (λ (x : List ℕ) (y : ℕ). Ok (record { checks = x; dmin = Some y })) p q
      ∙ ap (λ (b : Bool). Ok (known_of b n rows)) (sym (ap (λ (x : Reading). asked x measure) e)) ∙ ok_answered _ _ o

-- ---- the numbers of these causes

pub radius-numbered : (P : ℕ → Type 0) (reading : Reading) (d : ℕ) → P 5 → Numbered P (radius_answer reading d)
radius-numbered P Nearest d h = tt
radius-numbered P (Within r) d h = unless-numbered P (leb (2 * r + 1) d) RadiusTooLarge done h tt

pub code_numbered : (n k : ℕ) (rows : List ℕ) (reading : Reading) → Numbered (Between 1 5) (code_answer n k rows reading)
unfolding code_answer
code_numbered n k rows reading =
    and_then-numbered (Between 1 5) (matrix_answer n k rows) _
    (numbered_as (Between 1 5) (Between 1 4) (λ m h. (h.0, omega (arith, h))) (matrix_answer n k rows) (matrix-numbered n k rows))
    (radius-numbered (Between 1 5) reading (dmin rows) (omega arith, omega arith))

-- 02, No. 7: at 32 places never 3
pub code_every_row : (n k : ℕ) (rows : List ℕ) (reading : Reading) → EveryRow n (matrix_answer n k rows) → EveryRow n (code_answer n k rows reading)
unfolding code_answer
code_every_row n k rows reading w =
    rows_first n (matrix_answer n k rows) _ _ refl w
    (never_of (Between 5 5) 3 (λ h. omega (arith, h)) _ (radius-numbered (Between 5 5) reading (dmin rows) (omega arith, omega arith)))

-- ---- 02, No. 7: with the causes of the lists

code_never : (n k : ℕ) (rows : List ℕ) (reading : Reading) → Never 7 (code_answer n k rows reading)
code_never n k rows reading = never_of (Between 1 5) 7 (λ h. omega (arith, h)) _ (code_numbered n k rows reading)

module _ (n k : ℕ) (rows : List ℕ) (reading : Reading) (row : EveryRow n (code_answer n k rows reading)) where
  -- refused before the words are looked at
  pub word_refused : (c : Refusal) (later : Answer) → code_answer n k rows reading ≡ Err c → EveryWord n (and_then (code_answer n k rows reading) later)
  word_refused c later e w =
      let same = stays (code_answer n k rows reading) later c e in
      (rw same at (row w), rw same at (code_never n k rows reading))

  -- and past them
  pub word_listed : (words : List ℕ) (m : ℕ) → Inside width words → EveryWord n (and_then (code_answer n k rows reading) (list_answer words n m))
  word_listed words m f w =
      let (three, seven) = never 3 7 _ _ refl (list_passes words n m w f) in
      (then_never 3 _ _ (row w) three, then_never 7 _ _ (code_never n k rows reading) seven)
