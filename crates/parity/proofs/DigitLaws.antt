-- Laws of the fold that joins a digit of each entry of a list, from the last entry to the first, into a word.
use Rattle.std.proofs.Common.{◌≡◌, refl, ap, ◌∙◌, List, [], ◌∷◌, reverse, ℕ, ◌+◌, ◌*◌, ◌%◌, ◌^◌, ◌<◌, ◌≤◌, length, arith}
use native.Mathlib.Nat.{lt_of_lt_of_le}
use lib.Pow.{pow_mono}
use Rattle.std.specs.List.{fold}
use Rattle.std.proofs.lemmas.List.{reverse-append}
use Rattle.std.proofs.lemmas.List.Sums.{fold-append}
use Rattle.coding.specs.Word.{◌⊕◌}
use Rattle.coding.specs.Check.{places}
use Rattle.coding.proofs.MachineLaws.{joined}
use Rattle.coding.proofs.CheckLaws.{places-lt}

-- the word that has the digit of x as its lowest place and w in the places above
abbrev pub with_digit : (ℕ → ℕ) → ℕ → ℕ → ℕ
with_digit digit w x = (w * 2 ^ 1) % 2 ^ 32 ⊕ digit x

pub places-fold : (digit : ℕ → ℕ) → ((x : ℕ) → digit x < 2) → (l : List ℕ) → length l ≤ 32 → fold (with_digit digit) 0 (reverse l) ≡ places digit l
places-fold digit f [] h = refl
places-fold digit f (x ∷ l) h =
    let fits : digit x + 2 * places digit l < 2 ^ 32 = lt_of_lt_of_le (places-lt digit f (x ∷ l)) (pow_mono h) in
    let last : places digit l * 2 + digit x ≡ digit x + 2 * places digit l = omega arith in
    ap (fold (with_digit digit) 0) (reverse-append (x ∷ []) l) ∙ fold-append (with_digit digit) 0 (reverse l) (x ∷ [])
    ∙ ap (λ (w : ℕ). with_digit digit w x) (places-fold digit f l (omega arith)) ∙ joined (places digit l) (digit x) (omega (arith, fits)) (f x) ∙ last
