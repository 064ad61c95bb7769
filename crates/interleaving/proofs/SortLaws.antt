-- Laws of the loop that sorts back one word, from its highest place to its lowest.
use mathlib.Core.Path.{◌≡◌, refl, sym, ap, subst, ◌∙◌}
use mathlib.Core.List.{List}
use Prim.Native.Nat.{ℕ, zero, suc, ◌+◌, ◌-◌, ◌*◌, ◌%◌, ◌^◌, ◌≤◌, ◌<◌}
use native.Mathlib.Nat.{mul-add, mul-one, mul-zero}
use native.Mathlib.Numerals.{add-one}
use native.Mathlib.Omega.{arith}
use lib.ListN.{length, get_or}
use Rattle.coding.specs.Lists.{tabulate}
use Rattle.coding.specs.Word.{◌⊕◌}
use Rattle.coding.specs.Matrix.{Inside}
use Rattle.coding.specs.Interleaving.{sorted_word}
use Rattle.coding.proofs.ListLaws.{length-tabulate, get_d_tabulate}
use Rattle.coding.proofs.JoinedLaws.{Joined, joined_start, joined_step, joined_end}
use Rattle.coding.proofs.InterleavingLaws.{bit-digit, bit_below}

-- the places from j on are in w, and b is where place j travelled
pub record Sorting (n L : ℕ) (bits : List ℕ) (i w b : ℕ) : Type 0 where
  pub j : ℕ
  pub word : Joined (λ q. get_or bits (L * q + i) 0) (tabulate (λ q. q) n) j w
  pub at : b ≡ L * j + i

pub sorting_start : (n L : ℕ) (bits : List ℕ) (i : ℕ) → n ≤ 32 → Sorting n L bits i 0 (L * n + i)
sorting_start n L bits i h = record {
  j = n;
  word = let long : length (tabulate (λ q. q) n) ≡ n = length-tabulate (λ q. q) n in
      let J : Joined (λ q. get_or bits (L * q + i) 0) (tabulate (λ q. q) n) (length (tabulate (λ q. q) n)) 0 = joined_start _ (rw long h) in
      subst (λ (x : ℕ). Joined (λ q. get_or bits (L * q + i) 0) (tabulate (λ q. q) n) x 0) long J;
  at = refl;
}

-- where L bits and more are left, the next place travelled L before b
module _ {n L : ℕ} {bits : List ℕ} {i w b : ℕ} (S : Sorting n L bits i w b) (below : i < L) (a : ℕ) (more : a + L ≡ b) where
  positive : 0 < S.j
  positive = go S.j S.at
    where
      go : (j : ℕ) → b ≡ L * j + i → 0 < j
      go zero e = absurd (omega (arith, e, more, mul-zero L))
      go (suc j) e = omega arith

  next : a ≡ L * (S.j - 1) + i
  next =
      let e : S.j ≡ S.j - 1 + 1 = omega (arith, positive) in
      omega (arith, more, S.at, ap (λ (x : ℕ). L * x) e ∙ mul-add L (S.j - 1) 1, mul-one L)

  within : S.j - 1 < n
  within = let h : S.j ≤ n = rw (length-tabulate (λ q. q) n) at S.word.within in omega (arith, h, positive)

  pub sorting_read : length bits ≡ L * n → a < length bits
  sorting_read e = rw (e, next) (bit_below L (omega arith) n i (S.j - 1) below within)

  pub sorting_step : Inside 1 bits → Sorting n L bits i ((w * 2 ^ 1) % 2 ^ 32 ⊕ get_or bits a 0) a
  sorting_step f = record {
    j = S.j - 1;
    word = joined_step S.word positive (λ q. bit-digit bits f (L * q + i))
        (ap (λ (x : ℕ). get_or bits x 0) next ∙ ap (λ (q : ℕ). get_or bits (L * q + i) 0) (sym (get_d_tabulate (λ q. q) n (S.j - 1) within)));
    at = next;
  }

-- and none where fewer are
pub sorting_end : {n L : ℕ} {bits : List ℕ} {i w b : ℕ} → Sorting n L bits i w b → b < L → w ≡ sorted_word n L bits i
sorting_end {L = L} {i = i} {b = b} S h = joined_end S.word (go S.j S.at)
  where
    go : (j : ℕ) → b ≡ L * j + i → j ≤ 0
    go zero e = omega arith
    go (suc j) e = absurd (omega (arith, e, h, mul-add L j 1, mul-one L, add-one j))
