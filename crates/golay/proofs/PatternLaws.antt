-- Laws of 000's steps: an error pattern of at most three places has at most one of them among its message places or at most one among
-- its check places, and since P times P is the identity the second case is the first for the syndrome times P.
use Rattle.std.proofs.Common.{None}
use mathlib.Core.Path.{◌≡◌, refl, sym, ap, ap₂, ◌∙◌}
use Prim.Native.Nat.{ℕ, zero, suc, ◌+◌, ◌*◌, ◌/◌, ◌%◌, ◌^◌, ◌≤◌, ◌<◌}
use native.Mathlib.Nat.{mul_comm}
use native.Mathlib.Decide.{dec_le}
use native.Mathlib.Omega.{arith}
use lib.Dec.{leb, lit≤}
use lib.ListN.{length, get_or}
use lib.Bits.{bit_and, and_mask, xor_comm, xor_zero_r, xor_lt, xor_shifted}
use lib.Count.{ones_cat}
use lib.Pow.{pow-lt, pow-add, shl_exact, shr_lt, split}
use borrow.Author.Tests.{leb-true, leb-false}
use Rattle.coding.specs.Lists.{first}
use Rattle.coding.specs.Word.{◌⊕◌, weight}
use Rattle.coding.specs.Matrix.{encode}
use Rattle.coding.specs.Inner.SystematicSyndrome.{systematic_syndrome}
use Rattle.coding.proofs.WordLaws.{xor_cancel_r}
use Rattle.coding.proofs.WeightLaws.{weight_none, weight-one, weight-pow}
use Rattle.coding.proofs.SearchLaws.{first_hit, first-before}
use Rattle.coding.proofs.MatrixLaws.{encode-xor, encode-zero, encode-lt, row_message}
use Rattle.coding.proofs.SystematicLaws.{pattern-syndrome}
use Rattle.golay_code.specs.Golay.{golay_checks}
use Rattle.golay_code.proofs.GolayLaws.{golay_size, golay_inside, golay_twice}
use Rattle.golay.specs.Inner.Steps.{Pattern, FewInMessage, ErrorPattern}

-- ---- words of 24 places as check places x and message places y

halves_lt : (x y : ℕ) → x < 2 ^ 12 → y < 2 ^ 12 → y * 2 ^ 12 + x < 2 ^ 24
halves_lt x y h k = omega arith

halves_weight : (x y : ℕ) → x < 2 ^ 12 → weight (y * 2 ^ 12 + x) ≡ weight y + weight x
halves_weight x y h = ones_cat 12 y x h

check-places : (w : ℕ) → w % 2 ^ 12 < 2 ^ 12
check-places w = omega arith

message_places : (w : ℕ) → w < 2 ^ 24 → w / 2 ^ 12 < 2 ^ 12
message_places w h = shr_lt 12 12 h

pub sum_lt : (u : ℕ) → encode golay_checks u < 2 ^ 12
sum_lt u = encode-lt 12 golay_checks golay_inside u

pub syndrome-lt : (w : ℕ) → systematic_syndrome 12 golay_checks w < 2 ^ 12
syndrome-lt w = xor_lt 12 (w % 2 ^ 12) (encode golay_checks (w / 2 ^ 12)) (check-places w) (sum_lt (w / 2 ^ 12))

-- ---- patterns

-- check places alone
pub check-pattern : (s : ℕ) → s < 2 ^ 12 → weight s ≤ 3 → Pattern s s
check-pattern s h l = record {
  below = omega arith;
  has = ap₂ (λ (a b : ℕ). a ⊕ encode golay_checks b) low_part high_part ∙ ap (λ (x : ℕ). s ⊕ x) (encode-zero golay_checks) ∙ xor_zero_r s;
  light = l;
}
  where
    low_part : s % 2 ^ 12 ≡ s
    low_part = omega arith

    high_part : s / 2 ^ 12 ≡ 0
    high_part = omega arith

-- a message place i, and check places
pub row_pattern : (s i e : ℕ) → s < 2 ^ 12 → i < 12 → weight (s ⊕ get_or golay_checks i 0) ≤ 2
    → e ≡ 2 ^ (12 + i) ⊕ (s ⊕ get_or golay_checks i 0) → Pattern s e
row_pattern s i e h k l q = record {
  below = rw is (halves_lt x (2 ^ i) x_lt (pow-lt k));
  has = ap (systematic_syndrome 12 golay_checks) is ∙ pattern-syndrome 12 golay_checks x (2 ^ i) x_lt
      ∙ ap (λ (a : ℕ). x ⊕ a) (row_message golay_checks i in_rows) ∙ xor_cancel_r (get_or golay_checks i 0) s;
  light = omega (arith, ap weight is, halves_weight x (2 ^ i) x_lt, weight-pow i, l);
}
  where
    in_rows : i < length golay_checks
    in_rows = rw golay_size k

    x : ℕ
    x = s ⊕ get_or golay_checks i 0

    x_lt : x < 2 ^ 12
    x_lt = xor_lt 12 s (get_or golay_checks i 0) h (golay_inside i in_rows)

    is : e ≡ 2 ^ i * 2 ^ 12 + x
    is = q ∙ ap (λ (a : ℕ). a ⊕ x) (pow-add 2 12 i ∙ mul_comm (2 ^ 12) (2 ^ i)) ∙ xor_shifted (2 ^ i) 12 x x_lt

-- the first near row is near
pub near_hit : (s i : ℕ) → i ≡ first (λ j. leb (weight (s ⊕ get_or golay_checks j 0)) 2) 12 → i < 12 → weight (s ⊕ get_or golay_checks i 0) ≤ 2
near_hit s i e h =
    rw (sym e) at (leb-true (weight (s ⊕ get_or golay_checks (first (λ j. leb (weight (s ⊕ get_or golay_checks j 0)) 2) 12) 0)) 2
    (first_hit (λ j. leb (weight (s ⊕ get_or golay_checks j 0)) 2) 12 (rw (sym e) h)))

-- neither
pub few_none : (s : ℕ) → 3 < weight s → ((i : ℕ) → i < 12 → 2 < weight (s ⊕ get_or golay_checks i 0)) → FewInMessage s None
few_none s h far x y l e k = go x y l e (weight y) refl k
  where
    go : (x y : ℕ) → y < 2 ^ 12 → x ⊕ encode golay_checks y ≡ s → (c : ℕ) → weight y ≡ c → c ≤ 1 → 3 < weight x + c
    go x y l e zero q k =
        let z : x ≡ s
        = sym (ap (λ (a : ℕ). x ⊕ encode golay_checks a) (weight_none y q) ∙ ap (λ (a : ℕ). x ⊕ a) (encode-zero golay_checks)
        ∙ xor_zero_r x) ∙ e in
        omega (arith, h, ap weight z)
    go x y l e (suc zero) q k =
        let (i, m, f) = weight-one 12 y l q in
        let row : encode golay_checks y ≡ get_or golay_checks i 0 = ap (encode golay_checks) f ∙ row_message golay_checks i (rw golay_size m) in
        let z : x ≡ s ⊕ get_or golay_checks i 0
        = sym (xor_cancel_r (get_or golay_checks i 0) x) ∙ ap (λ (a : ℕ). a ⊕ get_or golay_checks i 0) (ap (λ (a : ℕ). x ⊕ a) (sym row) ∙ e) in
        omega (arith, far i m, ap weight z)
    go x y l e (suc (suc c)) q k = absurd (omega arith)

pub few_far : (s i : ℕ) → 3 < weight s → i ≡ first (λ j. leb (weight (s ⊕ get_or golay_checks j 0)) 2) 12 → 12 ≤ i → FewInMessage s None
few_far s i h e k =
    few_none s h (λ j l. leb-false (weight (s ⊕ get_or golay_checks j 0)) 2
    (first-before (λ j. leb (weight (s ⊕ get_or golay_checks j 0)) 2) 12 j (omega (arith, e, k, l))))

-- ---- the other half

-- a syndrome times P is that of the pattern with its halves exchanged
exchanged : (x y s : ℕ) → y < 2 ^ 12 → x ⊕ encode golay_checks y ≡ s → y ⊕ encode golay_checks x ≡ encode golay_checks s
exchanged x y s h e =
    xor_comm y (encode golay_checks x)
    ∙ ap (λ (a : ℕ). encode golay_checks x ⊕ a) (sym (golay_twice y h))
    ∙ sym (encode-xor golay_checks x (encode golay_checks y)) ∙ ap (encode golay_checks) e

other-pattern : (s f : ℕ) → s < 2 ^ 12 → Pattern (encode golay_checks s) f → Pattern s ((f % 2 ^ 12) * 2 ^ 12 + f / 2 ^ 12)
other-pattern s f h F = record {
  below = halves_lt y x y_lt (check-places f);
  has = pattern-syndrome 12 golay_checks y x y_lt ∙ exchanged x y (encode golay_checks s) y_lt F.has ∙ golay_twice s h;
  light = omega (arith, F.light, halves_weight y x y_lt, halves_weight x y (check-places f), ap weight (split f 12));
}
  where
    x : ℕ
    x = f % 2 ^ 12

    y : ℕ
    y = f / 2 ^ 12

    y_lt : y < 2 ^ 12
    y_lt = message_places f F.below

-- neither s nor s times P has one
pub error_none : (s : ℕ) → FewInMessage s None → FewInMessage (encode golay_checks s) None → ErrorPattern s None
error_none s A B d h e = go (dec_le (weight (d / 2 ^ 12)) 1) (dec_le (weight (d % 2 ^ 12)) 1)
  where
    y_lt : d / 2 ^ 12 < 2 ^ 12
    y_lt = message_places d h

    whole : weight d ≡ weight (d / 2 ^ 12) + weight (d % 2 ^ 12)
    whole = ap weight (sym (split d 12)) ∙ halves_weight (d % 2 ^ 12) (d / 2 ^ 12) (check-places d)

    go : Dec (weight (d / 2 ^ 12) ≤ 1) → Dec (weight (d % 2 ^ 12) ≤ 1) → 3 < weight d
    go (yes l) b = omega (arith, whole, A (d % 2 ^ 12) (d / 2 ^ 12) y_lt e l)
    go (no l) (yes k) = omega (arith, whole, B (d / 2 ^ 12) (d % 2 ^ 12) (check-places d) (exchanged (d % 2 ^ 12) (d / 2 ^ 12) s y_lt e) k)
    go (no l) (no k) = omega (arith, whole, l, k)

-- the exchange, as the code writes it
exchange : (f : ℕ) → f < 2 ^ 24 → ((bit_and f 4095 * 2 ^ 12) % 2 ^ 32) ⊕ f / 2 ^ 12 ≡ (f % 2 ^ 12) * 2 ^ 12 + f / 2 ^ 12
exchange f h =
    ap (λ (a : ℕ). ((a * 2 ^ 12) % 2 ^ 32) ⊕ f / 2 ^ 12) (and_mask f 12)
    ∙ ap (λ (a : ℕ). a ⊕ f / 2 ^ 12) (shl_exact 12 12 32 (check-places f) (lit≤ tt)) ∙ xor_shifted (f % 2 ^ 12) 12 (f / 2 ^ 12) (message_places f h)

-- a pattern of s times P is one of s with its halves exchanged
pub exchanged-pattern : (s f : ℕ) → s < 2 ^ 12 → Pattern (encode golay_checks s) f → Pattern s (((bit_and f 4095 * 2 ^ 12) % 2 ^ 32) ⊕ f / 2 ^ 12)
exchanged-pattern s f h F = rw (exchange f F.below) (other-pattern s f h F)
