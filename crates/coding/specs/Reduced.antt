-- 01, part 1: the reduced row echelon form of a matrix. No place is moved; the leftmost one is the one at the lowest place.
use Rattle.std.specs.Prelude.{◌≡◌, ◌≢◌, List, ℕ, ◌<◌, length, get_or}
use Rattle.coding.specs.Word.{bit}
use Rattle.coding.specs.Matrix.{encode, SameCode, Inside}

-- the leftmost one of w stands at place p
pub record Leads (w p : ℕ) : Type 0 where
  pub one : bit w p ≡ 1
  pub none_before : (j : ℕ) → j < p → bit w j ≡ 0

-- the pivots are the leftmost ones of the rows, they rise, and each pivot place is 0 in every other row
pub record Echelon (rows pivots : List ℕ) : Type 0 where
  pub count : length pivots ≡ length rows
  pub leads : (i : ℕ) → i < length rows → Leads (get_or rows i 0) (get_or pivots i 0)
  pub rise : (i j : ℕ) → i < j → j < length rows → get_or pivots i 0 < get_or pivots j 0
  pub clear : (i j : ℕ) → i < length rows → j < length rows → i ≢ j → bit (get_or rows i 0) (get_or pivots j 0) ≡ 0

-- rows is the reduced row echelon form of given: it has that shape, with these pivots, and the same span
pub record ReducedForm (given rows pivots : List ℕ) : Type 0 where
  pub echelon : Echelon rows pivots
  pub same_span : SameCode given rows

-- the reduced rows listed by place: of m entries, at pivot i stands row i, and at every place that is no pivot 0
pub record ByPivot (m : ℕ) (rows pivots table : List ℕ) : Type 0 where
  pub size : length table ≡ m
  pub at_pivots : (i : ℕ) → i < length rows → get_or table (get_or pivots i 0) 0 ≡ get_or rows i 0
  pub elsewhere : (p : ℕ) → ((i : ℕ) → i < length rows → get_or pivots i 0 ≢ p) → get_or table p 0 ≡ 0

-- beside the reduced rows by place, B, stand messages: M has for each row of B one whose codeword is that row
pub record Traced (rows M B : List ℕ) : Type 0 where
  pub size : length M ≡ length B
  pub below : Inside (length rows) M
  pub sums : (p : ℕ) → p < length B → encode rows (get_or M p 0) ≡ get_or B p 0
