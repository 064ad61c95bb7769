-- Laws of the causes 1 to 4: they pass a matrix exactly when it is accepted. Assumes nothing.
use mathlib.Core.Path.{◌≡◌, refl, sym}
use mathlib.Core.List.{List}
use mathlib.Core.Bool.{Bool, true, false}
use Prim.Native.Nat.{ℕ, ◌<◌}
use native.Mathlib.Nat.{le_refl}
use native.Mathlib.Omega.{arith}
use lib.Dec.{eqb}
use lib.ListN.{length, take}
use borrow.Author.Tests.{eqb-false}
use Rattle.coding.specs.Matrix.{Inside, Independent, Depends, depends_at}
use Rattle.coding.proofs.DependLaws.{first_dependent, dependent_is, dependent_there, dependent_before, dependent_independent, none_independent, independent_none}
use Rattle.coding.proofs.SearchLaws.{first-le}
use Rattle.words.specs.Limits.{width, in_range}
use Rattle.answers.specs.Refusal.{unless, and_then, Between, done}
use Rattle.words.specs.Widest.{EveryRow}
use Rattle.words.specs.Shape.{first_outside, shape_answer}
use Rattle.answers.proofs.AnswerLaws.{first_refused, first_passes, first_done, and_then_done}
use Rattle.answers.proofs.AnswerLaws.{Numbered, Neither, neither, unless-numbered, and_then-numbered, never}
use Rattle.words.proofs.ShapeLaws.{shape_in, in_shape, shape_passes}
use Rattle.words.specs.Accepted.{matrix_answer, Accepted}
use Rattle.answers.specs.declared.answer.Refusal.{Refusal}
use Rattle.answers.specs.declared.answer.Refusal.TheVariants.{OutOfRange, RowCount, RowOutside, Dependent}
use Rattle.std.specs.Prelude.{Err}

-- ---- cause 4, from the row at which the elimination ended

module _ (n k : ℕ) (rows : List ℕ) (s : shape_answer n k rows ≡ done) where
  pub ends_dependent : (first_dependent rows ≡ length rows → ⊥) → matrix_answer n k rows ≡ Err (Dependent (first_dependent rows))
  unfolding matrix_answer
  ends_dependent ne = rw s (sym (first_refused (depends_at rows) (length rows) Dependent done (first_dependent rows) refl ne))

  pub ends_done : first_dependent rows ≡ length rows → matrix_answer n k rows ≡ done
  unfolding matrix_answer
  ends_done e = rw s (sym (first_passes (depends_at rows) (length rows) Dependent done (first_dependent rows) refl e))

pub shape_refused : (n k : ℕ) (rows : List ℕ) (c : Refusal) → shape_answer n k rows ≡ Err c → matrix_answer n k rows ≡ Err c
unfolding matrix_answer
shape_refused n k rows c e = simp e

pub accepted_in : (n k : ℕ) (rows : List ℕ) → matrix_answer n k rows ≡ done → Accepted n k rows
unfolding matrix_answer
accepted_in n k rows e =
    let (e1, e2) = and_then_done (shape_answer n k rows) _ e in
    let s = shape_in n k rows e1 in
    let d = (first_done (depends_at rows) (length rows) Dependent done e2).0 in
    record {
      range = s.range;
      count = s.count;
      inside = s.inside;
      independent = none_independent rows (λ i h. dependent_before rows i (rw d h));
    }

pub in_accepted : (n k : ℕ) (rows : List ℕ) → Accepted n k rows → matrix_answer n k rows ≡ done
in_accepted n k rows a =
    ends_done n k rows (in_shape n k rows (record { range = a.range; count = a.count; inside = a.inside }))
    (dependent_is rows (length rows) (le_refl (length rows)) (λ j h. independent_none rows a.independent j h) (λ h. absurd (omega (arith, h))))

-- the row that cause 4 names is a sum of earlier rows, and those are independent
pub found_in : (n k : ℕ) (rows : List ℕ) (i : ℕ) → matrix_answer n k rows ≡ Err (Dependent i)
    → Depends rows i × Independent (take i rows)
unfolding matrix_answer shape_answer
found_in n k rows i e = shape (in_range n k) (eqb (length rows) k) (eqb (first_outside n rows) (length rows)) e
  where
    there : (b : Bool) → eqb (first_dependent rows) (length rows) ≡ b → unless b (Dependent (first_dependent rows)) done ≡ Err (Dependent i)
        → Depends rows i × Independent (take i rows)
    there true q e = let z : ◌≡◌ {A = ℕ} 0 1 = cc in absurd (omega arith)
    there false q e =
        let same : first_dependent rows ≡ i = cc in
        let less : first_dependent rows < length rows
        = omega (arith, first-le (depends_at rows) (length rows), eqb-false (first_dependent rows) (length rows) q) in
        rw (← same) (dependent_there rows less, dependent_independent rows)

    shape : (a b c : Bool)
        → and_then (unless a OutOfRange (unless b RowCount (unless c (RowOutside (first_outside n rows)) done)))
        (unless (eqb (first_dependent rows) (length rows)) (Dependent (first_dependent rows)) done)
        ≡ Err (Dependent i) → Depends rows i × Independent (take i rows)
    shape true true true e = there (eqb (first_dependent rows) (length rows)) refl e
    shape true true false e = let z : ◌≡◌ {A = ℕ} 0 1 = cc in absurd (omega arith)
    shape true false c e = let z : ◌≡◌ {A = ℕ} 0 1 = cc in absurd (omega arith)
    shape false b c e = let z : ◌≡◌ {A = ℕ} 0 1 = cc in absurd (omega arith)

-- these causes have the numbers 1 to 4
pub matrix-numbered : (n k : ℕ) (rows : List ℕ) → Numbered (Between 1 4) (matrix_answer n k rows)
unfolding matrix_answer shape_answer
matrix-numbered n k rows =
    and_then-numbered (Between 1 4) (shape_answer n k rows) _
    (unless-numbered (Between 1 4) (in_range n k) OutOfRange _ (omega arith, omega arith)
    (unless-numbered (Between 1 4) (eqb (length rows) k) RowCount _ (omega arith, omega arith)
    (unless-numbered (Between 1 4) (eqb (first_outside n rows) (length rows)) (RowOutside (first_outside n rows)) done (omega arith, omega arith) tt)))
    (unless-numbered (Between 1 4) (eqb (first_dependent rows) (length rows)) (Dependent (first_dependent rows)) done (omega arith, omega arith) tt)

-- 02, No. 7: at 32 places neither 3 nor 7
pub matrix_passes : (n k : ℕ) (rows : List ℕ) → n ≡ width → Inside width rows → Numbered (Neither 3 7) (matrix_answer n k rows)
unfolding matrix_answer
matrix_passes n k rows e f =
    rw e (and_then-numbered (Neither 3 7) (shape_answer width k rows) _ (shape_passes k rows f)
    (unless-numbered (Neither 3 7) (eqb (first_dependent rows) (length rows)) (Dependent (first_dependent rows)) done (neither 3 7 4 refl refl) tt))

pub matrix_every_row : (n k : ℕ) (rows : List ℕ) → Inside width rows → EveryRow n (matrix_answer n k rows)
matrix_every_row n k rows f e = (never 3 7 _ _ refl (matrix_passes n k rows e f)).0
