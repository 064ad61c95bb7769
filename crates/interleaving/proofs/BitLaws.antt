-- Laws of the causes 16 and 17: what each test decides, what is known when they pass, and the bytes joined into one.
use mathlib.Core.Path.{◌≡◌, refl, sym}
use mathlib.Core.Logic.{◌≢◌}
use mathlib.Core.List.{List, [], ◌∷◌}
use mathlib.Core.Bool.{Bool, true, false}
use Prim.Native.Nat.{ℕ, zero, suc, ◌+◌, ◌*◌, ◌≤◌, ◌<◌}
use native.Mathlib.Nat.{le_refl, zero-add}
use native.Mathlib.Numerals.{add-one}
use native.Mathlib.Omega.{arith}
use lib.Dec.{eqb, leb, ltb}
use lib.Bits.{bit_or}
use lib.ListN.{length, get_or, drop, drop_of_length-le}
use lib.Seq.{drop-cons}
use Rattle.std.specs.List.{fold}
use borrow.Author.Tests.{leb-true, le-leb, lt-leb, eqb-true, eq-eqb, ne_eqb, ltb-true, ltb-false}
use Rattle.coding.specs.Matrix.{Inside}
use Rattle.coding.proofs.LoopLaws.{Gathered, gathered_start, gathered_step, gathered-each, gathered_joint}
use Rattle.words.specs.Limits.{max_depth}
use Rattle.answers.specs.Refusal.{unless, Between, done}
use Rattle.words.specs.Shape.{first_outside}
use Rattle.answers.specs.declared.answer.Refusal.TheVariants.{NoDepth, NoBits}
use Rattle.answers.proofs.AnswerLaws.{unless_done, and_then_done, goes, Numbered, unless-numbered, and_then-numbered}
use Rattle.words.proofs.ShapeLaws.{outside_none, inside_none}
use Rattle.interleaving.specs.Causes.{only_bits, length_answer, bits_answer}
use Rattle.std.specs.Prelude.{Err}

-- ---- cause 16, and the length

module _ (n L m : ℕ) where
  pub depth_zero : L < 1 → Err NoDepth ≡ length_answer n L m
  unfolding length_answer
  depth_zero h = simp (lt-leb 1 L h)

  pub depth_large : 1 ≤ L → max_depth < L → Err NoDepth ≡ length_answer n L m
  unfolding length_answer
  depth_large h k = simp (le-leb 1 L h, lt-leb L max_depth k)

  pub length-other : 1 ≤ L → L ≤ max_depth → m ≢ L * n → Err NoBits ≡ length_answer n L m
  unfolding length_answer
  length-other h k e = simp (le-leb 1 L h, le-leb L max_depth k, ne_eqb m (L * n) e)

  pub length_right : 1 ≤ L → L ≤ max_depth → m ≡ L * n → done ≡ length_answer n L m
  unfolding length_answer
  length_right h k e = simp (le-leb 1 L h, le-leb L max_depth k, eq-eqb m (L * n) e)

  -- the numbers of these causes
  pub length-numbered : Numbered (Between 16 17) (length_answer n L m)
  unfolding length_answer
  length-numbered =
      unless-numbered (Between 16 17) (leb 1 L) NoDepth _ (omega arith, omega arith)
      (unless-numbered (Between 16 17) (leb L max_depth) NoDepth _ (omega arith, omega arith)
      (unless-numbered (Between 16 17) (eqb m (L * n)) NoBits done (omega arith, omega arith) tt))

  -- what is known when they pass
  pub record Fitting : Type 0 where
    pub positive : 0 < L
    pub small : L ≤ max_depth
    pub long : m ≡ L * n

  pub length_in : length_answer n L m ≡ done → Fitting
  unfolding length_answer
  length_in e =
      let (low, d) = unless_done (leb 1 L) NoDepth _ e in
      let (high, l) = unless_done (leb L max_depth) NoDepth _ d in
      record {
        positive = leb-true 1 L low;
        small = leb-true L max_depth high;
        long = eqb-true m (L * n) (unless_done (eqb m (L * n)) NoBits done l).0;
      }

-- ---- cause 17 of received bits

module _ (n L : ℕ) (bits : List ℕ) where
  pub bits_decide : length_answer n L (length bits) ≡ done → unless (only_bits bits) NoBits done ≡ bits_answer n L bits
  unfolding bits_answer
  bits_decide e = goes (length_answer n L (length bits)) _ e

  pub bits_in : bits_answer n L bits ≡ done → Fitting n L (length bits) × Inside 1 bits
  unfolding bits_answer
  bits_in e =
      let (a, b) = and_then_done (length_answer n L (length bits)) _ e in
      (length_in n L (length bits) a, outside_none 1 bits (eqb-true (first_outside 1 bits) (length bits) (unless_done (only_bits bits) NoBits done b).0))

  pub bits_numbered : Numbered (Between 16 17) (bits_answer n L bits)
  unfolding bits_answer
  bits_numbered =
      and_then-numbered (Between 16 17) (length_answer n L (length bits)) _ (length-numbered n L (length bits))
      (unless-numbered (Between 16 17) (only_bits bits) NoBits done (omega arith, omega arith) tt)

-- ---- the bytes joined: the joint is below 2 exactly when each byte is

abbrev joint : ℕ → List ℕ → ℕ
joint a l = fold bit_or a l

module _ (bits : List ℕ) where
  -- the bytes before i are joined, and then the others
  joined_from : (m i a : ℕ) → i + m ≡ length bits → Gathered 1 bits i a → Gathered 1 bits (length bits) (joint a (drop i bits))
  joined_from zero i a e G =
      let all : i ≡ length bits = omega (arith, e) in
      rw (drop_of_length-le bits {i = i} (omega (arith, all))) (rw all at G)
  joined_from (suc m) i a e G =
      let more : i < length bits = omega (arith, e) in
      rw (drop-cons bits i 0 more) (rw add-one at (joined_from m (i + 1) (bit_or a (get_or bits i 0)) (omega (arith, e)) (gathered_step G more)))

  joined_all : Gathered 1 bits (length bits) (joint 0 bits)
  joined_all = joined_from (length bits) 0 0 (zero-add (length bits)) (gathered_start 1 bits)

  pub bits_test : ltb (joint 0 bits) 2 ≡ only_bits bits
  bits_test = go (ltb (joint 0 bits) 2) refl
    where
      go : (t : Bool) → ltb (joint 0 bits) 2 ≡ t → t ≡ only_bits bits
      go true e =
          sym (eq-eqb (first_outside 1 bits) (length bits)
          (inside_none 1 bits (gathered-each joined_all (le_refl (length bits)) (ltb-true (joint 0 bits) 2 e))))
      go false e =
          sym (ne_eqb (first_outside 1 bits) (length bits)
          (λ z. absurd (omega (arith, ltb-false (joint 0 bits) 2 e, gathered_joint joined_all (outside_none 1 bits z)))))
