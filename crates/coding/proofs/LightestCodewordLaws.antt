-- Laws of the lightest codeword: what the definition finds is the smallest of the nonzero codewords of weight dmin, there is no other, and
-- matrices of one code have the same. Assumes nothing.
use mathlib.Core.Path.{◌≡◌, refl, sym, ap, ◌∙◌}
use mathlib.Core.Logic.{◌≢◌}
use mathlib.Core.List.{List}
use mathlib.Core.Option.{Option, none, some}
use mathlib.Core.Bool.{Bool, true, false, not, ◌&&◌}
use Prim.Native.Nat.{ℕ, ◌^◌, ◌<◌}
use native.Mathlib.Nat.{le_antisymm}
use lib.Dec.{T, T_not, eqb, eqb_refl}
use borrow.Author.Tests.{ne_eqb}
use Rattle.coding.specs.Word.{weight}
use Rattle.coding.specs.Matrix.{Codeword, SameCode, is_codeword, Inside}
use Rattle.coding.specs.Lightest.{lightest_below, or_else}
use Rattle.coding.specs.Weight.{dmin, MinimumDistance, nonzero_codeword, lightest_codeword, Lightest}
use Rattle.coding.proofs.TestLaws.{and_left, and_right}
use Rattle.coding.proofs.SearchLaws.{true_false, codeword-test, codeword_fails}
use Rattle.coding.proofs.MatrixLaws.{codeword-lt}
use Rattle.coding.proofs.LightestLaws.{IsLightest, Found, found, lightest-one, lightest_same}

-- ---- the test, in words

module _ (rows : List ℕ) (w : ℕ) where
  says : T (nonzero_codeword rows w) → Codeword rows w × (w ≢ 0)
  says t = (
    (codeword-test rows w).0 (is_true (is_codeword rows w) (and_left (is_codeword rows w) _ t)),
    λ z. T_not (eqb w 0) (and_right (is_codeword rows w) _ t) (rw z (eqb_refl 0)),
  )
    where
      is_true : (b : Bool) → T b → b ≡ true
      is_true true t = refl
      is_true false t = absurd t

  passes : Codeword rows w → w ≢ 0 → T (nonzero_codeword rows w)
  passes c ne = rw ((codeword-test rows w).1 c, ne_eqb w 0 ne) tt

-- ---- the search and the record say the same

module _ (n : ℕ) (rows : List ℕ) (fits : Inside n rows) (D : MinimumDistance n rows (dmin rows)) where
  inside : (w : ℕ) → Codeword rows w → w < 2 ^ n
  inside = codeword-lt n rows fits

  searched : (x : ℕ) → Lightest rows x → IsLightest (nonzero_codeword rows) (2 ^ n) x
  searched x L = record {
    passes = passes rows x L.codeword L.nonzero;
    below = inside x L.codeword;
    light = λ v l t. rw L.weighs (D.least v (says rows v t).0 (says rows v t).1);
    first = λ v l t q. L.smallest v (says rows v t).0 (says rows v t).1 (q ∙ L.weighs);
  }

  told : (x : ℕ) → IsLightest (nonzero_codeword rows) (2 ^ n) x → Lightest rows x
  told x f = record {
    codeword = (says rows x f.passes).0;
    nonzero = (says rows x f.passes).1;
    weighs = weighs;
    smallest = λ v c ne q. f.first v (inside v c) (passes rows v c ne) (q ∙ sym weighs);
  }
    where
      weighs : weight x ≡ dmin rows
      weighs =
          let (w, c, ne, q) = D.attained in
          le_antisymm (rw q at (f.light w (inside w c) (passes rows w c ne))) (D.least x (says rows x f.passes).0 (says rows x f.passes).1)

  pub lightest-codeword : Lightest rows (lightest_codeword n rows)
  unfolding lightest_codeword
  lightest-codeword = go (lightest_below (nonzero_codeword rows) (2 ^ n)) (found (nonzero_codeword rows) (2 ^ n))
    where
      go : (o : Option ℕ) → Found (nonzero_codeword rows) (2 ^ n) o → Lightest rows (or_else 0 o)
      go none f = let (w, c, ne, q) = D.attained in absurd (f w (inside w c) (passes rows w c ne))
      go (some x) f = told x f

  pub lightest_only : (x : ℕ) → Lightest rows x → x ≡ lightest_codeword n rows
  lightest_only x L = lightest-one (nonzero_codeword rows) (2 ^ n) x (lightest_codeword n rows) (searched x L) (searched _ lightest-codeword)

-- ---- one code, one lightest codeword

pub lightest-one_code : (n : ℕ) (rows others : List ℕ) → SameCode rows others → lightest_codeword n rows ≡ lightest_codeword n others
unfolding lightest_codeword
lightest-one_code n rows others same =
    ap (or_else 0) (lightest_same (nonzero_codeword rows) (nonzero_codeword others) (2 ^ n)
    (λ v l. ap (λ (b : Bool). b && not (eqb v 0)) (alike v (is_codeword rows v) refl)))
  where
    alike : (v : ℕ) (b : Bool) → is_codeword rows v ≡ b → b ≡ is_codeword others v
    alike v true e = sym ((codeword-test others v).1 ((same v).0 ((codeword-test rows v).0 e)))
    alike v false e = sym (codeword_fails others v (λ c. true_false ((codeword-test rows v).1 ((same v).1 c)) e))
