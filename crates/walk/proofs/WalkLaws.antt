-- Laws of the walk over the codewords, block by block.
use mathlib.Core.Path.{◌≡◌, refl, sym, ap, ap₂, ◌∙◌}
use mathlib.Core.List.{List, ◌++◌}
use Prim.Native.Nat.{ℕ, suc, ◌+◌, ◌-◌, ◌≤◌, ◌<◌, ◌^◌, ◌*◌, ◌%◌}
use native.Mathlib.Nat.{mul-le-mul_right, mul_comm, add-mul, one-mul, zero-mul}
use native.Mathlib.Decide.{dec_le}
use native.Mathlib.Omega.{arith}
use lib.Dec.{eqb}
use lib.ListN.{length, get_or, take, drop, length-drop, take-append-drop}
use lib.ListN.{get_or-replicate, get_or-eq_default}
use lib.Seq.{take_all}
use lib.Pow.{pow-add, pow_mono}
use Rattle.coding.specs.Lists.{zeros, tabulate}
use Rattle.coding.specs.Word.{◌⊕◌, weight}
use Rattle.coding.specs.Matrix.{encode}
use Rattle.coding.proofs.ListLaws.{length-tabulate, get_d_tabulate}
use Rattle.coding.proofs.CountLaws.{count-le}
use Rattle.coding.proofs.MatrixLaws.{encode-split}
use Rattle.coding.proofs.MachineLaws.{shl_one}
use Rattle.walk.specs.Walked.{Walked}
use Rattle.walk.specs.Inner.Block.{BlockWalked}
use Rattle.walk.specs.declared.walk.Walk.{Walk}
use Rattle.std.specs.Prelude.{None}
use Rattle.walk.proofs.BlockLaws.{least_none}

walked_start : (rows : List ℕ) → Walked rows 0 (record { counts = zeros 33; lightest = None })
walked_start rows = record {
  size = refl;
  counts = λ j h. get_or-replicate 33 j 0 0 h;
  least = least_none (zeros 33) (omega arith);
  lightest = tt;
}

-- no count reaches past the messages walked, so there is room for a block more
walked_room : (rows : List ℕ) (m : ℕ) (w : Walk) → Walked rows m w → (b : ℕ) → m + b < 2 ^ 32 → (j : ℕ) → get_or w.counts j 0 + b < 2 ^ 32
walked_room rows m w W b h j = go (dec_le (suc j) 33)
  where
    go : Dec (j < 33) → get_or w.counts j 0 + b < 2 ^ 32
    go (yes l) = omega (arith, W.counts j l, count-le (λ u. eqb (weight (encode rows u)) j) m)
    go (no l) = let z : get_or w.counts j 0 ≡ 0 = get_or-eq_default w.counts 0 (omega (arith, W.size)) in omega arith

-- the blocks fit a machine word
block_fits : (f o h : ℕ) → h < 2 ^ o → f + o < 32 → h * 2 ^ f + 2 ^ f < 2 ^ 32
block_fits f o h l k =
    let e : (h + 1) * 2 ^ f ≤ 2 ^ o * 2 ^ f = mul-le-mul_right (2 ^ f) (omega arith) in
    let p : 2 ^ o * 2 ^ f ≡ 2 ^ (o + f) = sym (pow-add 2 o f) in
    let q : 2 ^ (o + f) ≤ 2 ^ 31 = pow_mono {i = o + f} {j = 31} (omega arith) in
    omega (arith, add-mul h 1 (2 ^ f), one-mul (2 ^ f))

module _ (front others : List ℕ) (h : ℕ) (block : List ℕ) (is : block ≡ tabulate (encode front) (2 ^ length front)) (base : ℕ)
    (at : base ≡ encode others h) where
  words : (i : ℕ) → i < 2 ^ length front → get_or block i 0 ⊕ base ≡ encode (front ++ others) (h * 2 ^ length front + i)
  words i l =
      ap₂ ◌⊕◌ (ap (λ (b : List ℕ). get_or b i 0) is ∙ get_d_tabulate (encode front) (2 ^ length front) i l) at
      ∙ sym (encode-split front others h i l)

  long_block : length block ≡ 2 ^ length front
  long_block = ap length is ∙ length-tabulate (encode front) (2 ^ length front)

  next_block : (h + 1) * 2 ^ length front ≡ h * 2 ^ length front + 2 ^ length front
  next_block = add-mul h 1 (2 ^ length front) ∙ ap (λ (x : ℕ). h * 2 ^ length front + x) (one-mul (2 ^ length front))

  walked_block : (w v : Walk) → Walked (front ++ others) (h * 2 ^ length front) w → BlockWalked block base w v
      → Walked (front ++ others) ((h + 1) * 2 ^ length front) v
  walked_block w v W B =
      rw next_block (rw long_block at (B (front ++ others) (h * 2 ^ length front) (λ i k. words i (rw long_block at k)) W))

-- h blocks have been walked
pub record Blocks (front others block : List ℕ) (end : ℕ) (walk : Walk) (h : ℕ) : Type 0 where
  pub filled : block ≡ tabulate (encode front) (2 ^ length front)
  pub few : length front + length others < 32
  pub ends : end ≡ 2 ^ length others
  pub upto : h ≤ end
  pub walked : Walked (front ++ others) (h * 2 ^ length front) walk

pub blocks_start : {front others block : List ℕ} → block ≡ tabulate (encode front) (2 ^ length front) → length front + length others < 32
    → Blocks front others block ((1 * 2 ^ length others) % 2 ^ 32) (record { counts = zeros 33; lightest = None }) 0
blocks_start {front} {others} e few = record {
  filled = e;
  few = few;
  ends = shl_one (length others) 32 (omega arith);
  upto = omega arith;
  walked = rw (zero-mul (2 ^ length front)) (walked_start (front ++ others));
}

module _ {front others block : List ℕ} {end : ℕ} {walk : Walk} {h : ℕ} (B : Blocks front others block end walk h) where
  pub block_long : length block ≡ 2 ^ length front
  block_long = ap length B.filled ∙ length-tabulate (encode front) (2 ^ length front)

  pub blocks_room : h < end → (j : ℕ) → get_or walk.counts j 0 + length block < 2 ^ 32
  blocks_room l =
      walked_room (front ++ others) _ walk B.walked (length block)
      (rw block_long (block_fits (length front) (length others) h (rw B.ends at l) B.few))

  pub blocks_next : {base : ℕ} {after : Walk} → h < end → base ≡ encode others h → BlockWalked block base walk after
      → Blocks front others block end after (h + 1)
  blocks_next {base} {after} l e W = record {
    filled = B.filled;
    few = B.few;
    ends = B.ends;
    upto = omega arith;
    walked = walked_block front others h block B.filled base e walk after B.walked W;
  }

  pub blocks_end : end ≤ h → Walked (front ++ others) (2 ^ (length front + length others)) walk
  blocks_end l =
      let e : h ≡ 2 ^ length others = omega (arith, B.ends, B.upto) in
      let p : h * 2 ^ length front ≡ 2 ^ (length front + length others)
      = ap (λ (x : ℕ). x * 2 ^ length front) e ∙ mul_comm (2 ^ length others) (2 ^ length front) ∙ sym (pow-add 2 (length front) (length others)) in
      rw p at B.walked

-- ---- the rows in two parts, and room for the block

-- a block of at most 8 rows fits the arrays
pub size_fits : (b : ℕ) → b ≤ 8 → (1 * 2 ^ b) % 2 ^ 64 ≤ 256
size_fits b h = rw (shl_one b 64 (omega arith)) (pow_mono {i = b} {j = 8} h)

pub parts_whole : (rows : List ℕ) (b : ℕ) → b ≤ length rows → take b rows ++ take (length rows - b) (drop b rows) ≡ rows
parts_whole rows b h =
    ap (λ (l : List ℕ). take b rows ++ l) (take_all (length rows - b) (drop b rows) (simp length-drop (omega arith))) ∙ take-append-drop b rows
