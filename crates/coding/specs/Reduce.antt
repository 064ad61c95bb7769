-- How the reduced row echelon form is computed: row by row, with the rows listed by place.
use Rattle.std.specs.Prelude.{List, [], ◌∷◌, map, ℕ, zero, suc, set}
use Rattle.std.specs.Int.Count.{count_trailing_zeros}
use Rattle.coding.specs.Lists.{zeros}
use Rattle.coding.specs.Word.{◌⊕◌, bit}
use Rattle.coding.specs.Matrix.{sel, encode}

-- The reduced rows listed by place: of n entries, entry p is the row whose pivot is p, and 0 where p is no pivot.
-- In this list "the sum of the rows that the pivot places of w ask for" is `encode B w`.

-- what is left of w when each pivot place has been cleared
abbrev pub rest : List ℕ → ℕ → ℕ
rest B w = w ⊕ encode B w

-- x with place q cleared by the row r
abbrev pub wipe : ℕ → ℕ → ℕ → ℕ
wipe q r x = x ⊕ sel (bit x q) r

-- place q is cleared in every row by x, and x becomes the row of the pivot q
abbrev pub put : ℕ → List ℕ → ℕ → List ℕ
put q B x = set (map (wipe q x) B) q x

-- one row more: what is left of it, where that is not zero, is put at its leftmost one
abbrev pub add_to : ℕ → List ℕ → ℕ → List ℕ
add_to n B zero = B
add_to n B (suc y) = put (count_trailing_zeros n (suc y)) B (suc y)

abbrev pub reduce_from : ℕ → List ℕ → List ℕ → List ℕ
reduce_from n B [] = B
reduce_from n B (r ∷ rows) = reduce_from n (add_to n B (rest B r)) rows

-- the reduced rows by place
abbrev pub reduce : ℕ → List ℕ → List ℕ
reduce n rows = reduce_from n (zeros n) rows

-- the rows of such a list, without the places that are no pivot
abbrev pub rows_of : List ℕ → List ℕ
rows_of [] = []
rows_of (zero ∷ B) = rows_of B
rows_of (suc r ∷ B) = suc r ∷ rows_of B

-- its pivots, and its other places, in rising order, where the first entry stands for place p
abbrev pub pivots_from : ℕ → List ℕ → List ℕ
pivots_from p [] = []
pivots_from p (zero ∷ B) = pivots_from (suc p) B
pivots_from p (suc r ∷ B) = p ∷ pivots_from (suc p) B

abbrev pub frees_from : ℕ → List ℕ → List ℕ
frees_from p [] = []
frees_from p (zero ∷ B) = p ∷ frees_from (suc p) B
frees_from p (suc r ∷ B) = frees_from (suc p) B

-- the reduced rows of the matrix and their pivots; `reduced_rows_form` says that they are its reduced row echelon form,
-- and `reduced_form_unique` that no others are
abbrev pub reduced_rows : ℕ → List ℕ → List ℕ
reduced_rows n rows = rows_of (reduce n rows)

abbrev pub pivots : ℕ → List ℕ → List ℕ
pivots n rows = pivots_from 0 (reduce n rows)
