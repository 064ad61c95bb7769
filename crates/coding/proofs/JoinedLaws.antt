-- Laws of the loops that join a digit of each entry of a list, from the last entry to the first, into a word. Assumes nothing.
use mathlib.Core.Path.{◌≡◌, sym, ap, ap₂, ◌∙◌}
use mathlib.Core.List.{List}
use Prim.Native.Nat.{ℕ, ◌*◌, ◌%◌, ◌^◌, ◌-◌, ◌≤◌, ◌<◌}
use native.Mathlib.Nat.{le_refl}
use native.Mathlib.Omega.{arith}
use lib.ListN.{length, get_or, drop}
use lib.Seq.{drop-length}
use Rattle.coding.specs.Word.{◌⊕◌}
use Rattle.coding.specs.Check.{places}
use Rattle.coding.proofs.CheckLaws.{places-joined}

-- the digits of the entries from i on are joined
pub record Joined (digit : ℕ → ℕ) (l : List ℕ) (i word : ℕ) : Type 0 where
  pub few : length l ≤ 32
  pub within : i ≤ length l
  pub value : word ≡ places digit (drop i l)

pub joined_start : (digit : ℕ → ℕ) {l : List ℕ} → length l ≤ 32 → Joined digit l (length l) 0
joined_start digit {l} h = record { few = h; within = le_refl (length l); value = sym (ap (places digit) (drop-length l)) }

module _ {digit : ℕ → ℕ} {l : List ℕ} {i word : ℕ} (J : Joined digit l i word) where
  pub joined_step : {d : ℕ} → 0 < i → ((x : ℕ) → digit x < 2) → d ≡ digit (get_or l (i - 1) 0)
      → Joined digit l (i - 1) ((word * 2 ^ 1) % 2 ^ 32 ⊕ d)
  joined_step h f e = record {
    few = J.few;
    within = omega (arith, J.within);
    value = ap₂ (λ (x y : ℕ). (x * 2 ^ 1) % 2 ^ 32 ⊕ y) J.value e ∙ places-joined digit l i h J.within f J.few;
  }

  pub joined_end : i ≤ 0 → word ≡ places digit l
  joined_end h = let e : i ≡ 0 = omega arith in rw e at J.value
