-- The sum of columns by diagonals: it is linear in the data, and at each single data place it is that place's column.
use mathlib.Core.Path.{◌≡◌, refl, sym, ap, ap₂, ◌∙◌}
use mathlib.Core.List.{List, [], ◌∷◌}
use Prim.Native.Nat.{ℕ, suc, ◌+◌, ◌*◌, ◌/◌, ◌%◌, ◌^◌, ◌<◌}
use native.Mathlib.Nat.{add-zero}
use native.Mathlib.Omega.{arith}
use Rattle.std.proofs.Common.{reverse, fold, w64}
use Rattle.std.proofs.lemmas.Nat.{or_shifted, and_le_l}
use Rattle.std.proofs.lemmas.List.{reverse-append}
use Rattle.std.proofs.lemmas.List.Sums.{fold-append}
use Rattle.std.specs.Int.{rotate_left}
use lib.ListN.{length}
use lib.Pow.{pow_pos}
use lib.Bits.{bit_and, xor_block, xor_mod, xor_shr, xor_lt, xor_shifted}
use Rattle.coding.specs.Lists.{tabulate}
use Rattle.coding.specs.Word.{◌⊕◌, bit}
use Rattle.coding.specs.Matrix.{encode}
use Rattle.coding.proofs.WordLaws.{xor-four}
use Rattle.coding.proofs.WeightLaws.{and_xor}
use Rattle.coding.proofs.LinearLaws.{linear_columns}
use Rattle.hsiao.specs.Table.{columns}

-- the word whose place i is the digit (i + k) % 8 of column i, where the first of the columns stands at place i
abbrev diagonal : ℕ → ℕ → List ℕ → ℕ
diagonal k i [] = 0
diagonal k i (x ∷ cols) = bit x ((i + k) % 8) + 2 * diagonal k (suc i) cols

-- the diagonals of the table
unfoldable pub diagonals : List ℕ
diagonals = tabulate (λ k. diagonal k 0 columns) 8

-- one place on in 64 places, the last becoming the first
abbrev pub turn : ℕ → ℕ
turn x = (x * 2 ^ 1) % 2 ^ 64 ⊕ x / 2 ^ 63

-- what the diagonals select, each moved on once more than the one before it
abbrev pub turned_sum : List ℕ → ℕ → ℕ
turned_sum [] x = 0
turned_sum (m ∷ ms) x = turn (turned_sum ms x) ⊕ bit_and x m

-- the word and itself k places lower
abbrev pub onto : ℕ → ℕ → ℕ
onto k x = x ⊕ x / 2 ^ k

-- the sum of eight bytes
abbrev pub byte_sum : ℕ → ℕ
byte_sum x = bit_and (onto 8 (onto 16 (onto 32 x))) 255

turn_lt : (x : ℕ) → x < 2 ^ 64 → turn x < 2 ^ 64
turn_lt x h = xor_lt 64 ((x * 2 ^ 1) % 2 ^ 64) (x / 2 ^ 63) (omega arith) (omega arith)

-- as the machine turns a word
turn_is : (x : ℕ) → x < 2 ^ 64 → rotate_left w64 x 1 ≡ turn x
turn_is x h =
    let e : (x * 2 ^ 1) % 2 ^ 64 ≡ (x % 2 ^ 63) * 2 ^ 1 = omega arith in
    let l : x / 2 ^ 63 < 2 ^ 1 = omega arith in
    rw e (or_shifted (x % 2 ^ 63) 1 (x / 2 ^ 63) l ∙ sym (xor_shifted (x % 2 ^ 63) 1 (x / 2 ^ 63) l))

turned_lt : (ms : List ℕ) (x : ℕ) → x < 2 ^ 64 → turned_sum ms x < 2 ^ 64
turned_lt [] x h = omega arith
turned_lt (m ∷ ms) x h =
    xor_lt 64 (turn (turned_sum ms x)) (bit_and x m) (turn_lt (turned_sum ms x) (turned_lt ms x h)) (omega (arith, and_le_l x m))

-- the fold over the diagonals, the last one first
pub turned-fold : (ms : List ℕ) (x : ℕ) → x < 2 ^ 64 → fold (λ (s d : ℕ). rotate_left w64 s 1 ⊕ bit_and x d) 0 (reverse ms) ≡ turned_sum ms x
turned-fold [] x h = refl
turned-fold (m ∷ ms) x h =
    ap (fold (λ (s d : ℕ). rotate_left w64 s 1 ⊕ bit_and x d) 0) (reverse-append (m ∷ []) ms)
    ∙ fold-append (λ (s d : ℕ). rotate_left w64 s 1 ⊕ bit_and x d) 0 (reverse ms) (m ∷ [])
    ∙ ap (λ (s : ℕ). rotate_left w64 s 1 ⊕ bit_and x m) (turned-fold ms x h)
    ∙ ap (λ (s : ℕ). s ⊕ bit_and x m) (turn_is (turned_sum ms x) (turned_lt ms x h))

shl-xor : (a b k w : ℕ) → ((a ⊕ b) * 2 ^ k) % 2 ^ w ≡ (a * 2 ^ k) % 2 ^ w ⊕ (b * 2 ^ k) % 2 ^ w
shl-xor a b k w =
    let e : (a * 2 ^ k) ⊕ (b * 2 ^ k) ≡ (a ⊕ b) * 2 ^ k = simp add-zero at (xor_block k a b 0 0 (pow_pos k) (pow_pos k)) in
    ap (λ (x : ℕ). x % 2 ^ w) (sym e) ∙ xor_mod (a * 2 ^ k) (b * 2 ^ k) w

turn-xor : (a b : ℕ) → turn (a ⊕ b) ≡ turn a ⊕ turn b
turn-xor a b = ap₂ ◌⊕◌ (shl-xor a b 1 64) (xor_shr a b 63) ∙ xor-four ((a * 2 ^ 1) % 2 ^ 64) ((b * 2 ^ 1) % 2 ^ 64) (a / 2 ^ 63) (b / 2 ^ 63)

turned-xor : (ms : List ℕ) (a b : ℕ) → turned_sum ms (a ⊕ b) ≡ turned_sum ms a ⊕ turned_sum ms b
turned-xor [] a b = refl
turned-xor (m ∷ ms) a b =
    ap₂ ◌⊕◌ (ap turn (turned-xor ms a b) ∙ turn-xor (turned_sum ms a) (turned_sum ms b)) (and_xor a b m)
    ∙ xor-four (turn (turned_sum ms a)) (turn (turned_sum ms b)) (bit_and a m) (bit_and b m)

onto-xor : (k a b : ℕ) → onto k (a ⊕ b) ≡ onto k a ⊕ onto k b
onto-xor k a b = ap (λ (x : ℕ). (a ⊕ b) ⊕ x) (xor_shr a b k) ∙ xor-four a b (a / 2 ^ k) (b / 2 ^ k)

byte_xor : (a b : ℕ) → byte_sum (a ⊕ b) ≡ byte_sum a ⊕ byte_sum b
byte_xor a b =
    ap (λ (x : ℕ). bit_and x 255)
    (ap (λ (x : ℕ). onto 8 (onto 16 x)) (onto-xor 32 a b) ∙ ap (onto 8) (onto-xor 16 (onto 32 a) (onto 32 b))
    ∙ onto-xor 8 (onto 16 (onto 32 a)) (onto 16 (onto 32 b)))
    ∙ and_xor (onto 8 (onto 16 (onto 32 a))) (onto 8 (onto 16 (onto 32 b))) 255

-- one computed test: the column of every place
each-place : tabulate (λ p. byte_sum (turned_sum diagonals (2 ^ p))) 64 ≡ columns
unfolding columns diagonals
each-place = refl

-- no place selects nothing
none : byte_sum (turned_sum diagonals 0) ≡ 0
unfolding columns diagonals
none = refl

pub diagonals-length : length diagonals ≡ 8
unfolding columns diagonals
diagonals-length = refl

pub diagonal-sum : (x : ℕ) → x < 2 ^ 64 → byte_sum (turned_sum diagonals x) ≡ encode columns x
diagonal-sum x h =
    sym (linear_columns (λ y. byte_sum (turned_sum diagonals y)) none
    (λ a b. ap byte_sum (turned-xor diagonals a b) ∙ byte_xor (turned_sum diagonals a) (turned_sum diagonals b)) 64 x h)
    ∙ ap (λ (l : List ℕ). encode l x) each-place
