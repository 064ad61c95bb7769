-- Laws of the table of an accepted matrix, its reduced rows in 32 places: the rows and messages that are read off it are
-- those of the definitions in n places.
use mathlib.Core.Path.{◌≡◌, refl, sym, ap, ◌∙◌}
use mathlib.Core.List.{List, ◌++◌, map}
use Prim.Native.Nat.{ℕ, ◌-◌, ◌≤◌, ◌<◌}
use native.Mathlib.Omega.{arith}
use lib.ListN.{length, take, length-map}
use lib.Seq.{take_at, ext_get_or}
use Rattle.coding.specs.Lists.{zeros, padded}
use Rattle.coding.specs.Matrix.{message_of}
use Rattle.coding.specs.Reduce.{reduce, rows_of, reduced_rows, pivots}
use Rattle.coding.specs.Reduced.{ReducedForm, ByPivot, Traced}
use Rattle.coding.proofs.ListLaws.{get_d_map}
use Rattle.coding.proofs.ReduceLaws.{whole}
use Rattle.coding.proofs.EchelonLaws.{by_pivot, reduced_rows_form}
use Rattle.coding.proofs.UniqueLaws.{reduced_form_unique}
use Rattle.coding.proofs.WidthLaws.{inside_wide, reduce_wide, rows_zeros}
use Rattle.coding.proofs.TraceLaws.{traced_at, trace_message}
use Rattle.words.specs.Limits.{max_rows}
use Rattle.answers.specs.Refusal.{done, answered, answer_of}
use Rattle.words.specs.Widest.{EveryRow}
use Rattle.answers.specs.declared.answer.Refusal.{Refusal}
use Rattle.answers.proofs.AnswerLaws.{refused_done, err_answered, answer_of-answered, if_answered, done_answered, part-answered}
use Rattle.words.specs.Accepted.{matrix_answer, Accepted}
use Rattle.linear.specs.ReducedRows.{ReducedRowsOf}
use Rattle.linear.specs.Reduction.{messages_by_pivot, MessagesByPivot, ReductionOf}
use Rattle.linear.specs.declared.reduction.Reduction.{Reduction}
use Rattle.words.proofs.AcceptedLaws.{accepted_in}
use Rattle.words.proofs.CodeLaws.{places_are, rows_are}
use Rattle.std.specs.Prelude.{Result, Err, IsOk}

module _ (n k : ℕ) (rows : List ℕ) (A : Accepted n k rows) where
  narrow : n ≤ 32
  narrow = omega (arith, A.range.places)

  -- the messages beside the reduced rows are theirs
  pub beside_are : (M : List ℕ) → Traced rows M (reduce 32 rows) → M ≡ map (message_of rows) (reduce 32 rows)
  beside_are M t =
      ext_get_or 0 M (map (message_of rows) (reduce 32 rows)) (t.size ∙ sym (length-map (reduce 32 rows) (message_of rows)))
      (λ p h. let l : p < length (reduce 32 rows) = omega (arith, h, t.size) in
      sym (get_d_map (message_of rows) (reduce 32 rows) p l ∙ trace_message rows A.independent _ _ (traced_at rows M (reduce 32 rows) t p l)))

  -- the table has each reduced row at its pivot, and 0 elsewhere: in 32 places as in n, the reduced form is the only one
  pub by_pivot_is : ByPivot 32 (reduced_rows n rows) (pivots n rows) (reduce 32 rows)
  by_pivot_is =
      let W = inside_wide n 32 narrow rows A.inside in
      let (e, q) = reduced_form_unique rows (reduced_rows 32 rows) (reduced_rows n rows) (pivots 32 rows) (pivots n rows)
      (reduced_rows_form 32 rows W) (reduced_rows_form n rows A.inside) in
      let size : length (reduce 32 rows) ≡ 32 = (whole 32 rows W).reduced.size in
      rw (← e, ← q) (rw size at (by_pivot (reduce 32 rows)))

  module _ (table : List ℕ) (is : table ≡ reduce 32 rows) where
    -- the table is the reduced rows in n places, and zeros
    pub wide : table ≡ reduce n rows ++ zeros (32 - n)
    wide = is ∙ reduce_wide n 32 narrow rows A.inside

    pub table_size : length table ≡ 32
    table_size = ap length is ∙ (whole 32 rows (inside_wide n 32 narrow rows A.inside)).reduced.size

    pub places_fit : n ≤ length table
    places_fit = omega (arith, table_size, narrow)

    pub table_take : take n table ≡ reduce n rows
    table_take = ap (take n) wide ∙ take_at (reduce n rows) (zeros (32 - n)) n (places_are n k rows A)

    pub compact_is : rows_of table ≡ reduced_rows n rows
    compact_is = ap rows_of wide ∙ rows_zeros (reduce n rows) (32 - n)

-- the reduced rows of an accepted matrix are its reduced row echelon form, the only one
pub reduced_rows_lem : (n k : ℕ) (rows : List ℕ) → EveryRow n (matrix_answer n k rows) → (r : Result (List ℕ) Refusal)
    → r ≡ answered (matrix_answer n k rows) (padded max_rows (reduced_rows n rows)) → ReducedRowsOf n k rows r
reduced_rows_lem n k rows w r e = record {
  is = e;
  every_row = rw (ap answer_of e ∙ answer_of-answered (matrix_answer n k rows) _) w;
  count = λ d. rows_are n k rows (accepted d);
  form = λ d. form d;
  only = λ d B P F. reduced_form_unique rows B (reduced_rows n rows) P (pivots n rows) F (form d);
}
  where
    accepted : IsOk r → Accepted n k rows
    accepted d = accepted_in n k rows (done_answered (matrix_answer n k rows) _ r e d)

    form : IsOk r → ReducedForm rows (reduced_rows n rows) (pivots n rows)
    form d = reduced_rows_form n rows (accepted d).inside

-- and the messages by pivot are those of the table
messages_lem : (n k : ℕ) (rows : List ℕ) → (matrix_answer n k rows ≡ done → Traced rows (messages_by_pivot rows) (reduce 32 rows))
    → (r : Result (List ℕ) Refusal) → r ≡ answered (matrix_answer n k rows) (messages_by_pivot rows) → MessagesByPivot n rows r
messages_lem n k rows trace r e = record {
  are = if_answered (matrix_answer n k rows) _ (λ m. m ≡ messages_by_pivot rows) r e (λ _. refl);
  by_pivot = λ d. by_pivot_is n k rows (accepted_in n k rows (done_answered (matrix_answer n k rows) _ r e d));
  traced = if_answered (matrix_answer n k rows) _ (λ m. Traced rows m (reduce 32 rows)) r e trace;
}

-- what the reduction promises
pub reduction_lem : (n k : ℕ) (rows : List ℕ) → EveryRow n (matrix_answer n k rows)
    → (matrix_answer n k rows ≡ done → Traced rows (messages_by_pivot rows) (reduce 32 rows)) → (r : Result Reduction Refusal)
    → r ≡ answered (matrix_answer n k rows) (record { rows = padded max_rows (reduced_rows n rows); table = reduce 32 rows; messages = messages_by_pivot rows })
    → ReductionOf n k rows r
reduction_lem n k rows w trace r e = record {
  is = e;
  reduced = reduced_rows_lem n k rows w _ (part-answered (λ x. x.rows) (matrix_answer n k rows) _ r e);
  messages = messages_lem n k rows trace _ (part-answered (λ x. x.messages) (matrix_answer n k rows) _ r e);
}

pub reduction_refused : (n k : ℕ) (rows : List ℕ) → EveryRow n (matrix_answer n k rows) → (c : Refusal) → matrix_answer n k rows ≡ Err c
    → (r : Result Reduction Refusal) → r ≡ Err c → ReductionOf n k rows r
reduction_refused n k rows w c m r e =
    reduction_lem n k rows w (λ d. refused_done (sym m ∙ d)) r (e ∙ err_answered (matrix_answer n k rows) _ c m)
