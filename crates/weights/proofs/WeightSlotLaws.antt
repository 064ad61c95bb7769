-- Laws of lists with an entry for each weight.
use mathlib.Core.Path.{◌≡◌, refl, subst, ◌∙◌}
use mathlib.Core.List.{List}
use Prim.Native.Nat.{ℕ, zero, suc, ◌+◌, ◌≤◌, ◌<◌}
use native.Mathlib.Decide.{dec_le}
use native.Mathlib.Omega.{arith}
use lib.ListN.{length, get_or, get_or-eq_default}
use denote.Param.Members.{Mut, Called}
use Rattle.std.specs.Array.{IsFromFnResult, IsFromFnResultFrom}
use Rattle.std.proofs.lemmas.List.FromFn.{fill_by_all}
use Rattle.coding.proofs.ListLaws.{length-tabulate, get_d_tabulate, tabulate_same}
use Rattle.weights.specs.Inner.Overlap.{earlier, slots}

pub slots_long : (f : ℕ → ℕ) → length (slots f) ≡ 33
unfolding slots
slots_long f = length-tabulate f 33

pub slots_at : (f : ℕ → ℕ) (j : ℕ) → j < 33 → get_or (slots f) j 0 ≡ f j
unfolding slots
slots_at f j h = get_d_tabulate f 33 j h

pub slots_same : (f g : ℕ → ℕ) → ((j : ℕ) → j < 33 → f j ≡ g j) → slots f ≡ slots g
unfolding slots
slots_same f g h = tabulate_same f g 33 h

-- past them there is 0
pub slots-below : (f : ℕ → ℕ) (b : ℕ) → ((j : ℕ) → f j < b) → (j : ℕ) → get_or (slots f) j 0 < b
slots-below f b h j = go (dec_le (suc j) 33)
  where
    go : Dec (j < 33) → get_or (slots f) j 0 < b
    go (yes l) = rw (slots_at f j l) (h j)
    go (no l) = rw (get_or-eq_default (slots f) 0 {n = j} (omega (arith, slots_long f))) (omega (arith, h j))

-- the entry before
pub earlier_at : (f : ℕ → ℕ) (j : ℕ) → j < 33 → earlier (λ i. get_or (slots f) i 0) j ≡ earlier f j
earlier_at f zero h = refl
earlier_at f (suc j) h = slots_at f j (omega arith)

-- ---- an array made entry by entry: the closure gives h of each index, and its captures stay

module _ {F : Type 0} (g : Mut F (ℕ × Unit {0}) ℕ) (h : ℕ → ℕ) (ys : List ℕ) (m : ℕ) where
  given_from : (f : F) (n i : ℕ) → i + n ≡ m → IsFromFnResultFrom g f ys i n
      → ((x r : ℕ) (q : F) → x < m → Called g f (x, tt) r q → (q ≡ f) × (r ≡ h x)) → (k : ℕ) → i ≤ k → k < m → get_or ys k 0 ≡ h k
  given_from f zero i e R acts k low high = absurd (omega arith)
  given_from f (suc n) i e (q, y, is, called, rest) acts k low high =
      let now = acts i y q (omega arith) called in
      first i k y (is.1 0) now.1 low
      (λ l. given_from f n (i + 1) (omega arith) (subst (λ (p : F). IsFromFnResultFrom g p ys (i + 1) n) now.0 rest) acts k (omega arith) high)
    where
      first : (i k y : ℕ) → get_or ys i 0 ≡ y → y ≡ h i → i ≤ k → (i < k → get_or ys k 0 ≡ h k) → get_or ys k 0 ≡ h k
      first i k y is e low later = go (dec_le (suc i) k)
        where
          go : Dec (i < k) → get_or ys k 0 ≡ h k
          go (yes l) = later l
          go (no l) = let same : i ≡ k = omega arith in subst (λ (x : ℕ). get_or ys x 0 ≡ h x) same (is ∙ e)

pub slots_given : {F : Type 0} (g : Mut F (ℕ × Unit {0}) ℕ) (h : ℕ → ℕ) (f : F) (ys : List ℕ) → IsFromFnResult g f ys 33
    → ((x r : ℕ) (q : F) → x < 33 → Called g f (x, tt) r q → (q ≡ f) × (r ≡ h x)) → ys ≡ slots h
unfolding slots
slots_given g h f ys R acts = fill_by_all h ys 33 0 R.long (λ k l. given_from g h ys 33 f 33 0 refl R.each acts k (omega arith) l)
