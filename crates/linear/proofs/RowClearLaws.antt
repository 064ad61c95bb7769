-- Laws of the elimination's loops: over the rows, and over the places at which a row is cleared.
use mathlib.Core.Path.{◌≡◌, refl, sym, ap, ◌∙◌}
use mathlib.Core.Logic.{◌≢◌}
use mathlib.Core.List.{List}
use Prim.Native.Nat.{ℕ, ◌+◌, ◌^◌, ◌≤◌, ◌<◌}
use native.Mathlib.Omega.{arith}
use lib.ListN.{length, get_or, take, set}
use lib.Pow.{pow-lt}
use lib.Count.{count_trailing_zeros}
use Rattle.coding.specs.Lists.{zeros}
use Rattle.coding.specs.Word.{bit, ◌⊕◌}
use Rattle.coding.specs.Matrix.{Inside, Depends, sel}
use Rattle.coding.specs.Inner.Beside.{wipes}
use Rattle.coding.specs.Reduce.{rest, put, reduce}
use Rattle.coding.specs.Reduced.{Traced}
use Rattle.coding.proofs.MatrixLaws.{row_message}
use Rattle.coding.proofs.PivotLaws.{ByPlace, Cleared, cleared_start, cleared_step, cleared_end, cleared-zero}
use Rattle.coding.proofs.EliminateLaws.{table_shape, row_ends, row_place, row_added, none_more}
use Rattle.coding.proofs.TraceLaws.{Trace, trace_step, traced_at, traced_start, traced-put, wipes_self}

-- the first i rows are reduced, with a message beside each, and none of them is a sum of earlier ones
pub record ReducedUpTo (rows : List ℕ) (i : ℕ) (table messages : List ℕ) : Type 0 where
  pub fits : Inside 32 rows
  pub within : i ≤ length rows
  pub table_is : table ≡ reduce 32 (take i rows)
  pub none : (j : ℕ) → j < i → Depends rows j → ⊥
  pub traced : Traced rows messages table

pub reduced_start : (rows : List ℕ) → Inside 32 rows → ReducedUpTo rows 0 (zeros 32) (zeros 32)
reduced_start rows f = record { fits = f; within = omega arith; table_is = refl; none = λ j h. absurd (omega arith); traced = traced_start rows 32 }

-- row i is cleared at the pivots before p; x is what is left of it, and has the message m
pub record Clearing (rows table messages : List ℕ) (i p x m : ℕ) : Type 0 where
  pub before : ReducedUpTo rows i table messages
  pub more : i < length rows
  pub within : p ≤ 32
  pub cleared : Cleared table (get_or rows i 0) p x
  pub trace : Trace rows m x

module _ {rows table messages : List ℕ} {i : ℕ} where
  pub clear_start : ReducedUpTo rows i table messages → i < length rows → Clearing rows table messages i 0 (get_or rows i 0) (2 ^ i)
  clear_start R h = record {
    before = R;
    more = h;
    within = omega arith;
    cleared = cleared_start table (get_or rows i 0);
    trace = (pow-lt h, row_message rows i h);
  }

  module _ {p x m : ℕ} (C : Clearing rows table messages i p x m) where
    -- the table has the shape by place
    shape : ByPlace 32 table
    shape = table_shape 32 rows C.before.fits i C.more table C.before.table_is

    pub clear_step : {y z : ℕ} → p ≢ 32 → y ≡ sel (bit x p) (get_or table p 0) → z ≡ sel (bit x p) (get_or messages p 0)
        → Clearing rows table messages i (p + 1) (x ⊕ y) (m ⊕ z)
    clear_step n d e =
        let k : p < length table = omega (arith, shape.size, C.within) in
        record {
          before = C.before;
          more = C.more;
          within = omega (arith, C.within);
          cleared = rw d (cleared_step 32 table shape (get_or rows i 0) p x C.cleared k);
          trace = rw (d, e) (trace_step rows m x (bit x p) _ _ C.trace (traced_at rows messages table C.before.traced p k));
        }

    -- the row cancels
    pub clear_none : x ≡ 0 → Depends rows i
    clear_none e =
        let z : Cleared table (get_or rows i 0) p 0 = rw e at C.cleared in
        row_ends 32 rows C.before.fits i C.more table C.before.table_is 0 (sym (cleared-zero table (get_or rows i 0) p z)) refl

    -- the row is cleared at every place, and is not 0
    module _ (all : p ≡ 32) (ne : x ≢ 0) where
      left : x ≡ rest table (get_or rows i 0)
      left = cleared_end 32 table shape (get_or rows i 0) p x C.cleared (omega (arith, shape.size, all))

      pub clear_place : count_trailing_zeros 32 x < 32
      clear_place = row_place 32 rows C.before.fits i C.more table C.before.table_is x left ne

      pub clear_put : {T M : List ℕ} → T ≡ set (wipes (count_trailing_zeros 32 x) table table x) (count_trailing_zeros 32 x) x
          → M ≡ set (wipes (count_trailing_zeros 32 x) table messages m) (count_trailing_zeros 32 x) m → ReducedUpTo rows (i + 1) T M
      clear_put {T} d e =
          let q = count_trailing_zeros 32 x in
          let R = C.before in
          let d : T ≡ put q table x = d ∙ ap (λ (w : List ℕ). set w q x) (wipes_self q table x) in
          record {
            fits = R.fits;
            within = omega (arith, C.more);
            table_is = d ∙ row_added 32 rows R.fits i C.more table R.table_is x left ne;
            none = none_more 32 rows R.fits i C.more table R.table_is x left ne R.none;
            traced = rw (d, e) (traced-put rows messages table R.traced q m x (rw shape.size clear_place) C.trace);
          }
