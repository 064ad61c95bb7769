-- Laws of the syndromes of a batch: with each check row, from the last to the first, every word has one more digit; and the bits of what
-- then stands in the slots.
use mathlib.Core.Path.{◌≡◌, refl, subst, ap, ◌∙◌}
use mathlib.Core.List.{List, [], ◌∷◌, ◌++◌, map, reverse}
use Prim.Native.Nat.{ℕ, ◌+◌, ◌*◌, ◌%◌, ◌^◌, ◌-◌, ◌≤◌, ◌<◌, min}
use native.Mathlib.Nat.{sub-zero}
use native.Mathlib.Omega.{arith}
use lib.ListN.{length, get_or, take, drop, replicate, length-map, length-take, get_or-append}
use lib.Seq.{drop-length, get_or-take}
use Rattle.std.proofs.lemmas.List.{get_or-reverse}
use Rattle.std.proofs.lemmas.Grind.{get_or_default_zero}
use Rattle.coding.specs.Lists.{tabulate}
use Rattle.coding.specs.Word.{◌⊕◌, parity}
use Rattle.coding.specs.Check.{syndrome}
use Rattle.coding.proofs.ListLaws.{get_d_map, take_most, tabulate-map}
use Rattle.coding.proofs.WeightLaws.{parity-lt}
use Rattle.coding.proofs.CheckLaws.{places-joined, places-bit, syndrome-lt}
use Rattle.parity.specs.Syndromes.{SyndromeOf, SyndromesOf}
use Rattle.parity.specs.Inner.Joined.{joined_by}

-- ---- the digits by the last check rows are joined

no_rows : (words : List ℕ) → replicate (length words) 0 ≡ map (syndrome []) words
no_rows [] = refl
no_rows (w ∷ words) = ap (λ (l : List ℕ). 0 ∷ l) (no_rows words)

pub rows_start : (checks words : List ℕ) → replicate (length words) 0 ≡ map (syndrome (drop (length checks - 0) checks)) words
rows_start checks words = rw (sub-zero (length checks), drop-length checks) (no_rows words)

row_joined : (checks words list after : List ℕ) (j : ℕ) → length checks ≤ 32 → 0 < j → j ≤ length checks
    → list ≡ map (syndrome (drop j checks)) words → after ≡ tabulate (joined_by (get_or checks (j - 1) 0) words list) (length list) → after ≡ map (syndrome (drop (j - 1) checks)) words
row_joined checks words list after j few h k s a = a ∙ ap (tabulate digits) size ∙ tabulate-map digits (syndrome (drop (j - 1) checks)) words at
  where
    digits : ℕ → ℕ
    digits = joined_by (get_or checks (j - 1) 0) words list

    size : length list ≡ length words
    size = ap length s ∙ length-map words (syndrome (drop j checks))

    at : (v : ℕ) → v < length words → digits v ≡ syndrome (drop (j - 1) checks) (get_or words v 0)
    at v l =
        let w = get_or words v 0 in
        ap (λ (x : ℕ). (x * 2 ^ 1) % 2 ^ 32 ⊕ parity w (get_or checks (j - 1) 0))
        (ap (λ (x : List ℕ). get_or x v 0) s ∙ get_d_map (syndrome (drop j checks)) words v l)
        ∙ places-joined (parity w) checks j h k (parity-lt w) few

-- a row comes after the y last ones
pub rows_joined : (checks words list after : List ℕ) (y y' row : ℕ) → length checks ≤ 32 → y < length checks → y' ≡ y + 1
    → row ≡ get_or (reverse checks) y row → list ≡ map (syndrome (drop (length checks - y) checks)) words
    → after ≡ tabulate (joined_by row words list) (length list) → after ≡ map (syndrome (drop (length checks - y') checks)) words
rows_joined checks words list after y y' row few h e r s a =
    let j = length checks - y in
    let before : length checks - y' ≡ j - 1 = omega arith in
    let at : length checks - 1 - y ≡ j - 1 = omega arith in
    let is : row ≡ get_or checks (j - 1) 0
    = r ∙ get_or-reverse checks y row h ∙ ap (λ (i : ℕ). get_or checks i row) at ∙ get_or_default_zero checks (j - 1) row (omega arith) in
    rw before (row_joined checks words list after j few (omega arith) (omega arith) s
    (a ∙ ap (λ (x : ℕ). tabulate (joined_by x words list) (length list)) is))

-- ---- what the slots hold

-- the syndrome of the definition has 01's bits
pub syndrome_of_lem : (checks : List ℕ) (w s : ℕ) → s ≡ syndrome checks w → SyndromeOf checks w s
syndrome_of_lem checks w s e = record {
  is = e;
  bits = λ j h. rw e (places-bit (parity w) (parity-lt w) checks j h);
  no_more = rw e (syndrome-lt checks w);
}

pub syndromes_of : (checks words before after : List ℕ) → after ≡ map (syndrome checks) (take (length before) words) ++ drop (length words) before
    → SyndromesOf checks words before after
syndromes_of checks words before after e = record {
  slots = e;
  each = λ i h k. syndrome_of_lem checks (get_or words i 0) (get_or after i 0) (slot i h k);
}
  where
    slot : (i : ℕ) → i < length words → i < length before → get_or after i 0 ≡ syndrome checks (get_or words i 0)
    slot i h k =
        let first = take (length before) words in
        let l : i < length first = omega (arith, length-take (length before) words) in
        ap (λ (x : List ℕ). get_or x i 0) e
        ∙ get_or-append (map (syndrome checks) first) (drop (length words) before) 0 i (rw (length-map first (syndrome checks)) l)
        ∙ get_d_map (syndrome checks) first i l ∙ ap (syndrome checks) (get_or-take (length before) words i 0 k)

-- by the first c check rows, as many as there are
pub syndromes_first : (checks words before after : List ℕ) (c m : ℕ) → m ≡ min c (length checks) → SyndromesOf (take m checks) words before after
    → SyndromesOf (take c checks) words before after
syndromes_first checks words before after c m e S = subst (λ (h : List ℕ). SyndromesOf h words before after) (take_most checks c m e) S
