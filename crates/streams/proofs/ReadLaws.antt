-- Laws of bytes that are read after others.
use Rattle.std.proofs.Common.{◌≡◌, ℕ, ◌+◌, ◌≤◌, List, ◌++◌, length, take, Option, Some, None, refl, arith, sym, ap, ◌∙◌, append_assoc, length-take-le}
use Rattle.std.proofs.lemmas.Slice.{take-put_mid}
use lib.Seq.{take-take}
use Rattle.std.proofs.Math.Seq.{take-append-add}
use Rattle.std.specs.Io.KnownBytes.{Consumes}
use borrow.Rule.Slice.PartMut.{put_mid}

-- two reads after one another
pub consumes_on : (a b c : Option (List ℕ)) (xs ys : List ℕ) → Consumes a b xs → Consumes b c ys → Consumes a c (xs ++ ys)
consumes_on None b c xs ys f g = tt
consumes_on (Some x) None c xs ys f g = absurd f
consumes_on (Some x) (Some y) None xs ys f g = absurd g
consumes_on (Some x) (Some y) (Some z) xs ys f g = f ∙ ap (λ (l : List ℕ). xs ++ l) g ∙ sym (append_assoc xs ys z)

-- what is read into a part of a list stands after what is in front of the part
pub take-put_mid_add : (a k n : ℕ) (xs ys : List ℕ) → a ≤ length xs → n ≤ length ys → take (a + n) (put_mid a k xs ys) ≡ take a xs ++ take n ys
take-put_mid_add a k n xs ys h l =
    let front : length (take a xs) ≡ a = length-take-le a xs h in
    sym (take-take (a + n) (a + length ys) (put_mid a k xs ys) (omega arith))
    ∙ ap (take (a + n)) (take-put_mid a k xs ys (a + length ys) refl h)
    ∙ ap (λ (m : ℕ). take (m + n) (take a xs ++ ys)) (sym front)
    ∙ take-append-add (take a xs) ys n
