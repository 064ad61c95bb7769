-- Laws of digits put eight at a time: those of a byte, drawn apart, and the groups one after the other.
use mathlib.Core.Path.{◌≡◌, sym, ap, ap₂, ◌∙◌}
use mathlib.Core.List.{List, ◌∷◌, ◌++◌}
use mathlib.Core.Bool.{Bool}
use Prim.Native.Nat.{ℕ, zero, suc, ◌+◌, ◌-◌, ◌*◌, ◌/◌, ◌%◌, ◌^◌, ◌≤◌, ◌<◌}
use native.Mathlib.Nat.{zero-add, suc-add, div-one}
use native.Mathlib.Omega.{arith}
use Rattle.std.specs.Int.{to_le_bytes, w64}
use Rattle.std.proofs.lemmas.Slice.{take-put_mid}
use borrow.Rule.Slice.PartMut.{put_mid}
use lib.Seq.{take_all, take-take, length-take-le}
use lib.Dec.{T, eqb, eqb→eq}
use lib.ListN.{length, take, drop, length-append, length-drop}
use lib.Bits.{bit_and, bit_or, and_mask}
use lib.Pow.{shr-shr, field, mod-mod-pow}
use Rattle.coding.specs.Lists.{tabulate}
use Rattle.coding.specs.Word.{bit}
use Rattle.coding.proofs.ListLaws.{length-tabulate, get_d_tabulate, take-tabulate, tabulate_same}
use Rattle.coding.proofs.TestLaws.{every_entry, every_entry_lem}
use Rattle.lines.specs.Decimal.{digit}
use Rattle.lines.specs.Line.{digits_of}
use Rattle.lines.proofs.LineLaws.{length_digits}

-- ---- the digits of a byte

pub byte_is : (x : ℕ) → bit_and x 255 ≡ x % 2 ^ 8
byte_is x = and_mask x 8

-- m in each s places of 64
abbrev each : ℕ → ℕ → ℕ
each m s = m * ((2 ^ 64 - 1) / (2 ^ s - 1))

-- a number and itself s places higher, at the places of a mask
abbrev drawn : ℕ → ℕ → ℕ → ℕ
drawn a s m = bit_and (bit_or a ((a * 2 ^ s) % 2 ^ 64)) m

-- the places of a byte drawn apart, four to 32, two to 16, then one to 8, and each made a digit
abbrev apart : ℕ → ℕ
apart a = bit_or (drawn (drawn (drawn a 28 (each 15 32)) 14 (each 3 16)) 7 (each 1 8)) (each 48 8)

up_to : ℕ → List ℕ
up_to m = tabulate (λ i. i) m

-- byte i is the digit of place i
right : ℕ → ℕ → Bool
right a i = eqb (apart a / 2 ^ (8 * i) % 2 ^ 8) (digit (bit a i))

-- the test passes at each place of each byte
all_right : T (every_entry (λ a. every_entry (right a) (up_to 8)) (up_to 256))
unfolding right up_to
all_right = tt

right_at : (a i : ℕ) → a < 256 → i < 8 → apart a / 2 ^ (8 * i) % 2 ^ 8 ≡ digit (bit a i)
unfolding right up_to
right_at a i h k = eqb→eq _ _ (entry 8 (right a) (entry 256 (λ a. every_entry (right a) (up_to 8)) all_right a h) i k)
  where
    entry : (m : ℕ) (p : ℕ → Bool) → T (every_entry p (up_to m)) → (i : ℕ) → i < m → T (p i)
    entry m p t i h = rw (get_d_tabulate (λ i. i) m i h) at (every_entry_lem p (up_to m) t i (rw (length-tabulate (λ i. i) m) h))

-- the low byte has the first eight places
bit-low : (w i : ℕ) → i < 8 → bit (w % 2 ^ 8) i ≡ bit w i
bit-low w i h =
    let e : 7 - i + 1 + i ≡ 8 = omega arith in
    ap (λ (k : ℕ). bit (w % 2 ^ k) i) (sym e) ∙ ap (λ (x : ℕ). x % 2) (field w (7 - i + 1) i) ∙ mod-mod-pow (w / 2 ^ i) (7 - i) 1

-- the m lowest bytes, the lowest first
abbrev bytes_of : ℕ → ℕ → List ℕ
bytes_of m x = tabulate (λ i. x / 2 ^ (8 * i) % 2 ^ 8) m

apart-digits : (w : ℕ) → bytes_of 8 (apart (bit_and w 255)) ≡ digits_of 8 w
unfolding digits_of
apart-digits w =
    ap (λ (a : ℕ). bytes_of 8 (apart a)) (byte_is w)
    ∙ tabulate_same (λ i. apart (w % 2 ^ 8) / 2 ^ (8 * i) % 2 ^ 8) (λ i. digit (bit w i)) 8
    (λ i h. right_at (w % 2 ^ 8) i (omega arith) h ∙ ap digit (bit-low w i h))

-- the bytes of a number, the lowest first
bytes_low : (x : ℕ) → to_le_bytes w64 x ≡ bytes_of 8 x
bytes_low x = simp div-one

pub apart-low : (w : ℕ) → to_le_bytes w64 (apart (bit_and w 255)) ≡ digits_of 8 w
apart-low w = bytes_low (apart (bit_and w 255)) ∙ apart-digits w

-- ---- groups of digits

-- the values below q, then those from q on
tabulate-add : (f : ℕ → ℕ) (q m : ℕ) → tabulate f q ++ tabulate (λ i. f (q + i)) m ≡ tabulate f (q + m)
tabulate-add f zero m = tabulate_same (λ i. f (zero + i)) f m (λ i h. ap f (zero-add i)) ∙ ap (tabulate f) (sym (zero-add m))
tabulate-add f (suc q) m =
    ap (λ (l : List ℕ). f zero ∷ tabulate (λ i. f (suc i)) q ++ l)
    (tabulate_same (λ i. f (suc q + i)) (λ i. f (suc (q + i))) m (λ i h. ap f (suc-add q i)))
    ∙ ap (λ (l : List ℕ). f zero ∷ l) (tabulate-add (λ i. f (suc i)) q m)
    ∙ ap (tabulate f) (sym (suc-add q m))

-- the digits of the first q places, then those of the next m
digits-add : (q m w : ℕ) → digits_of q w ++ digits_of m (w / 2 ^ q) ≡ digits_of (q + m) w
unfolding digits_of
digits-add q m w =
    ap (λ (l : List ℕ). tabulate (λ i. digit (bit w i)) q ++ l)
    (tabulate_same (λ i. digit (bit (w / 2 ^ q) i)) (λ i. digit (bit w (q + i))) m (λ i h. ap (λ (x : ℕ). digit (x % 2)) (shr-shr w q i)))
    ∙ tabulate-add (λ i. digit (bit w i)) q m

digits-take : (q n w : ℕ) → q ≤ n → take q (digits_of n w) ≡ digits_of q w
unfolding digits_of
digits-take q n w h = take-tabulate (λ i. digit (bit w i)) n q h

-- eight more digits behind the first p
pub eights_step : (p k w : ℕ) (digits eight : List ℕ) → take p digits ≡ digits_of p w → p ≤ length digits → eight ≡ digits_of 8 (w / 2 ^ p)
    → take (p + 8) (put_mid p k digits eight) ≡ digits_of (p + 8) w
eights_step p k w digits eight e h g =
    let l : p + 8 ≡ p + length eight = omega (arith, ap length g, length_digits 8 (w / 2 ^ p)) in
    take-put_mid p k digits eight (p + 8) l h ∙ ap₂ ◌++◌ e g ∙ digits-add p 8 w

-- the last eight, behind the first q: with them all digits stand
pub eights_end : (q w : ℕ) (digits eight : List ℕ) → take q digits ≡ digits_of q w → length digits ≡ q + 8 → eight ≡ digits_of 8 (w / 2 ^ q)
    → put_mid q (length digits - q) digits eight ≡ digits_of (length digits) w
eights_end q w digits eight e l g =
    let k : length digits - q ≡ 8 = omega arith in
    let m : length eight ≡ 8 = ap length g ∙ length_digits 8 (w / 2 ^ q) in
    let s : length (put_mid q 8 digits eight) ≤ q + 8 = omega (arith, length-put_mid q 8 digits eight (omega arith) m) in
    rw (k, l) (sym (take_all (q + 8) (put_mid q 8 digits eight) s) ∙ eights_step q 8 w digits eight e (omega arith) g)
  where
    length-put_mid : (a k : ℕ) (xs ys : List ℕ) → a + k ≤ length xs → length ys ≡ k → length (put_mid a k xs ys) ≡ length xs
    length-put_mid a k xs ys h e =
        omega (
          arith,
          length-append (take a xs) (ys ++ drop k (drop a xs)),
          length-append ys (drop k (drop a xs)),
          length-drop k (drop a xs),
          length-drop a xs,
          length-take-le a xs (omega arith),
        )

-- of the first p, q stand
pub eights_fewer : (q p w : ℕ) (digits : List ℕ) → q ≤ p → take p digits ≡ digits_of p w → take q digits ≡ digits_of q w
eights_fewer q p w digits h e = sym (take-take q p digits h) ∙ ap (take q) e ∙ digits-take q p w h
