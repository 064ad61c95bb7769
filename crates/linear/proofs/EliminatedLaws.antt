-- Laws of the finished elimination of a matrix of the right shape: it tells whether a row depends on earlier ones, and else it is the
-- reduction.
use mathlib.Core.Path.{◌≡◌, sym, ap, ap₂, ◌∙◌}
use mathlib.Core.Logic.{◌≢◌}
use mathlib.Core.List.{List}
use Prim.Native.Nat.{ℕ, ◌≤◌}
use native.Mathlib.Omega.{arith}
use lib.ListN.{length, take}
use lib.Seq.{take-length}
use Rattle.coding.specs.Lists.{padded}
use Rattle.coding.proofs.DependLaws.{first_dependent, dependent_is}
use Rattle.coding.specs.Reduce.{reduce, rows_of, reduced_rows}
use Rattle.words.specs.Limits.{max_rows}
use Rattle.words.specs.Shape.{shape_answer}
use Rattle.words.specs.Accepted.{matrix_answer, Accepted}
use Rattle.answers.specs.declared.answer.Refusal.TheVariants.{Dependent}
use Rattle.words.proofs.AcceptedLaws.{ends_dependent, ends_done, accepted_in, in_accepted}
use Rattle.words.proofs.CodeLaws.{rows_are}
use Rattle.linear.specs.Reduction.{messages_by_pivot, ReductionOf}
use Rattle.linear.specs.Inner.Eliminated.{Eliminated}
use Rattle.linear.specs.declared.reduction.Elimination.{Elimination}
use Rattle.linear.proofs.PivotTableLaws.{reduction_lem, compact_is, beside_are}
use Rattle.answers.specs.Refusal.{done}
use Rattle.answers.proofs.AnswerLaws.{ok_answered}
use Rattle.words.specs.Widest.{EveryRow}
use Rattle.std.specs.Prelude.{Ok, Err}

module _ (n k : ℕ) (rows : List ℕ) (shaped : shape_answer n k rows ≡ done) {r : Elimination} (E : Eliminated rows r) where
  rank_is : first_dependent rows ≡ r.rank
  rank_is = dependent_is rows r.rank E.within E.before E.there

  -- it ended at a row that is a sum of earlier ones
  pub ended_dependent : r.rank ≢ length rows → matrix_answer n k rows ≡ Err (Dependent r.rank)
  ended_dependent ne = ends_dependent n k rows shaped (λ e. ne (sym rank_is ∙ e)) ∙ ap (λ (i : ℕ). Err (Dependent i)) rank_is

  -- it passed every row
  module _ (all : r.rank ≡ length rows) where
    accepted : Accepted n k rows
    accepted = accepted_in n k rows (ends_done n k rows shaped (rank_is ∙ all))

    table_is : r.table ≡ reduce 32 rows
    table_is = E.table ∙ ap (λ (k : ℕ). reduce 32 (take k rows)) all ∙ ap (reduce 32) (take-length rows)

    listed : rows_of r.table ≡ reduced_rows n rows
    listed = compact_is n k rows accepted r.table table_is

    pub ended_few : length (rows_of r.table) ≤ max_rows
    ended_few = rw listed (omega (arith, rows_are n k rows accepted, accepted.range.rows))

    messages_are : r.messages ≡ messages_by_pivot rows
    messages_are = beside_are n k rows accepted r.messages (rw table_is at E.traced)

    pub ended_done : EveryRow n (matrix_answer n k rows) → {l : List ℕ} → l ≡ padded max_rows (rows_of r.table)
        → ReductionOf n k rows (Ok (record { rows = l; table = r.table; messages = r.messages }))
    ended_done w {l} e =
        let d = in_accepted n k rows accepted in
        reduction_lem n k rows w (λ _. rw messages_are at (rw table_is at E.traced)) _
        (ap₂ (λ (x y : List ℕ). Ok (record { rows = x; table = y; messages = r.messages })) (e ∙ ap (padded max_rows) listed) table_is
        ∙ ap (λ (z : List ℕ). Ok (record { rows = padded max_rows (reduced_rows n rows); table = reduce 32 rows; messages = z })) messages_are
        ∙ ok_answered (matrix_answer n k rows) _ d)
