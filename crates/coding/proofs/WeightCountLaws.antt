-- Laws of weight counts: the codewords of each weight are as many as the messages with such a codeword, and all of them
-- together as many as the messages. Assumes nothing.
use mathlib.Core.Path.{◌≡◌, refl, sym, ap, ◌∙◌}
use mathlib.Core.List.{List}
use Prim.Native.Nat.{ℕ, suc, ◌^◌, suc-le-suc}
use lib.Dec.{eqb}
use lib.ListN.{length}
use lib.Count.{ones-le}
use Rattle.coding.specs.Lists.{total}
use Rattle.coding.specs.Word.{weight}
use Rattle.coding.specs.Matrix.{encode, is_codeword, Inside, Independent}
use Rattle.coding.specs.Weight.{count, weight_count, weight_counts}
use Rattle.coding.proofs.MatrixLaws.{encode-lt}
use Rattle.coding.proofs.SearchLaws.{codeword-test}
use Rattle.coding.proofs.DependLaws.{one_message}
use Rattle.coding.proofs.ListLaws.{tabulate_same}
use Rattle.coding.proofs.CountLaws.{count_image, count-total}

-- the codewords of weight j are as many as the messages with a codeword of weight j
pub weight_count_messages : (n : ℕ) (rows : List ℕ) → Inside n rows → Independent rows → (j : ℕ)
    → weight_count n rows j ≡ count (λ u. eqb (weight (encode rows u)) j) (2 ^ length rows)
unfolding weight_count
weight_count_messages n rows fits ind j =
    count_image (encode rows) (2 ^ length rows) (2 ^ n) (λ u l. encode-lt n rows fits u) (one_message rows ind)
    (is_codeword rows) (λ w l e. let (u, h, s) = (codeword-test rows w).0 e in (u, h, sym s))
    (λ u l. (codeword-test rows (encode rows u)).1 (u, l, refl)) (λ w. eqb (weight w) j)

-- the counts of all weights add up to the number of messages
pub weight_counts-total : (n : ℕ) (rows : List ℕ) → Inside n rows → Independent rows → total (weight_counts n rows) ≡ 2 ^ length rows
weight_counts-total n rows fits ind =
    ap total (tabulate_same (weight_count n rows) (λ j. count (λ u. eqb (weight (encode rows u)) j) (2 ^ length rows)) (suc n)
    (λ j l. weight_count_messages n rows fits ind j))
    ∙ count-total (λ u. weight (encode rows u)) (suc n) (2 ^ length rows)
    (λ u l. suc-le-suc (ones-le n (encode rows u) (encode-lt n rows fits u)))
