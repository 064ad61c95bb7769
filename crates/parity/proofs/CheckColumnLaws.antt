-- Laws of the columns of check rows: the sum of the columns of a word's places is its syndrome.
use mathlib.Core.Path.{◌≡◌, refl, sym, ap, ap₂, ◌∙◌}
use mathlib.Core.List.{List, [], ◌∷◌, ◌++◌, map, append-nil}
use mathlib.Core.Bool.{Bool, cond}
use Prim.Native.Nat.{ℕ, suc, ◌+◌, ◌*◌, ◌^◌, ◌≤◌, ◌<◌, min}
use native.Mathlib.Nat.{lt_of_lt_of_le, le_refl}
use native.Mathlib.Decide.{dec_le}
use native.Mathlib.Omega.{arith}
use lib.Dec.{ltb}
use lib.ListN.{length, get_or, take, drop, length-take, length-drop, length-replicate, get_or-replicate, take-append-drop, drop_of_length-le}
use lib.Seq.{ext_get_or, get_or-drop, length-take-le}
use borrow.Author.Tests.{lt-ltb, le-ltb}
use lib.Pow.{pow_mono, pow_pos}
use Rattle.coding.specs.Lists.{zeros, tabulate}
use Rattle.coding.specs.Matrix.{encode, Inside}
use Rattle.coding.specs.Check.{column, syndrome}
use Rattle.coding.proofs.LoopLaws.{over}
use Rattle.coding.proofs.ListLaws.{length-tabulate, get_d_tabulate, take-tabulate, tabulate_same, tabulate-map}
use Rattle.coding.proofs.WeightLaws.{parity_comm, parity-pow}
use Rattle.coding.proofs.MatrixLaws.{encode-lt, encode-take}
use Rattle.coding.proofs.CheckLaws.{syndrome-lt}
use Rattle.coding.proofs.LinearLaws.{syndrome-columns}
use Rattle.parity.specs.CheckColumns.{columns_of}

-- a column is the syndrome of the word with a one at its place alone
column-syndrome : (hs : List ℕ) (p : ℕ) → column hs p ≡ syndrome hs (2 ^ p)
column-syndrome [] p = refl
column-syndrome (h ∷ hs) p = ap₂ (λ (a b : ℕ). a + 2 * b) (sym (parity_comm (2 ^ p) h ∙ parity-pow h p)) (column-syndrome hs p)

-- entry p of a list of columns
abbrev entry : ℕ → List ℕ → ℕ → ℕ
entry n hs p = cond (ltb p n) (column hs p) 0

pub columns_long : (n : ℕ) (hs : List ℕ) → length (columns_of n hs) ≡ 32
unfolding columns_of
columns_long n hs = length-tabulate (entry n hs) 32

pub columns-column : (n : ℕ) (hs : List ℕ) (p : ℕ) → p < 32 → p < n → get_or (columns_of n hs) p 0 ≡ column hs p
unfolding columns_of
columns-column n hs p h k = get_d_tabulate (entry n hs) 32 p h ∙ ap (λ (b : Bool). cond b (column hs p) 0) (lt-ltb p n k)

pub columns_beyond : (n : ℕ) (hs : List ℕ) (p : ℕ) → p < 32 → n ≤ p → get_or (columns_of n hs) p 0 ≡ 0
unfolding columns_of
columns_beyond n hs p h k = get_d_tabulate (entry n hs) 32 p h ∙ ap (λ (b : Bool). cond b (column hs p) 0) (le-ltb p n k)

-- the first entries are the syndromes of the single places
columns_front : (n : ℕ) (hs : List ℕ) (end : ℕ) → end ≤ n → end ≤ 32 → take end (columns_of n hs) ≡ tabulate (λ p. syndrome hs (2 ^ p)) end
unfolding columns_of
columns_front n hs end h k =
    take-tabulate (entry n hs) 32 end k
    ∙ tabulate_same (entry n hs) (λ p. syndrome hs (2 ^ p)) end
    (λ p l. ap (λ (b : Bool). cond b (column hs p) 0) (lt-ltb p n (omega arith)) ∙ column-syndrome hs p)

pub columns-encode : (n : ℕ) (hs : List ℕ) (w : ℕ) → n ≤ 32 → w < 2 ^ n → encode (columns_of n hs) w ≡ syndrome hs w
columns-encode n hs w few h =
    sym (encode-take (columns_of n hs) n w h) ∙ ap (λ (l : List ℕ). encode l w) (columns_front n hs n (le_refl n) few) ∙ syndrome-columns hs n w h

columns-inside : (n : ℕ) (hs : List ℕ) (c : ℕ) → ((w : ℕ) → syndrome hs w < 2 ^ c) → Inside c (columns_of n hs)
columns-inside n hs c f p h = go (dec_le (suc p) n)
  where
    small : p < 32
    small = rw (columns_long n hs) at h

    go : Dec (p < n) → get_or (columns_of n hs) p 0 < 2 ^ c
    go (yes k) = rw (columns-column n hs p small k, column-syndrome hs p) (f (2 ^ p))
    go (no k) = rw (columns_beyond n hs p small (omega arith)) (pow_pos c)

-- the columns of the first places, in front of zeros
pub columns_filled : (n : ℕ) (hs : List ℕ) (end : ℕ) → end ≡ min n 32 → over (columns_of n hs) (zeros 32) end ≡ columns_of n hs
columns_filled n hs end e =
    ap (λ (l : List ℕ). take end (columns_of n hs) ++ l)
    (ext_get_or 0 (drop end (zeros 32)) (drop end (columns_of n hs)) long
    (λ i h. at i (omega (arith, h, length-drop end (zeros 32), length-replicate {A = ℕ} 32 0))))
    ∙ take-append-drop end (columns_of n hs)
  where
    long : length (drop end (zeros 32)) ≡ length (drop end (columns_of n hs))
    long = omega (arith, length-drop end (zeros 32), length-drop end (columns_of n hs), columns_long n hs, length-replicate {A = ℕ} 32 0)

    at : (i : ℕ) → end + i < 32 → get_or (drop end (zeros 32)) i 0 ≡ get_or (drop end (columns_of n hs)) i 0
    at i h =
        get_or-drop end (zeros 32) i 0 ∙ get_or-replicate 32 (end + i) 0 0 h
        ∙ sym (get_or-drop end (columns_of n hs) i 0 ∙ columns_beyond n hs (end + i) h (omega arith))

-- the syndromes of the single places, as many as there are slots in front of zeros
pub columns_singles : (n : ℕ) (hs : List ℕ) (end : ℕ) (singles list : List ℕ) → end ≡ min n 32 → singles ≡ tabulate (λ p. 2 ^ p) 32
    → list ≡ map (syndrome hs) (take (length (take end (zeros 32))) singles) ++ drop (length singles) (take end (zeros 32))
    → list ++ drop end (zeros 32) ≡ columns_of n hs
columns_singles n hs end singles list e s l =
    ap (λ (x : List ℕ). x ++ drop end (zeros 32))
    (l ∙ ap₂ (λ (x y : List ℕ). map (syndrome hs) x ++ y) first none ∙ append-nil _ ∙ sym (columns_front n hs end (omega arith) (omega arith) ∙ same))
    ∙ columns_filled n hs end e
  where
    places : List ℕ
    places = tabulate (λ p. 2 ^ p) end

    slots : length (take end (zeros 32)) ≡ end
    slots = length-take-le end (zeros 32) (omega (arith, length-replicate {A = ℕ} 32 0))

    first : take (length (take end (zeros 32))) singles ≡ places
    first = ap₂ take slots s ∙ take-tabulate (λ p. 2 ^ p) 32 end (omega arith)

    none : drop (length singles) (take end (zeros 32)) ≡ []
    none = drop_of_length-le (take end (zeros 32)) {i = length singles} (omega (arith, slots, ap length s ∙ length-tabulate (λ p. 2 ^ p) 32))

    same : tabulate (λ p. syndrome hs (2 ^ p)) end ≡ map (syndrome hs) places
    same =
        ap (tabulate (λ p. syndrome hs (2 ^ p))) (sym (length-tabulate (λ p. 2 ^ p) end))
        ∙ tabulate-map (λ p. syndrome hs (2 ^ p)) (syndrome hs) places
        (λ i h. ap (syndrome hs) (sym (get_d_tabulate (λ p. 2 ^ p) end i (rw (length-tabulate (λ p. 2 ^ p) end) at h))))

-- the first c check rows give syndromes of c places
pub columns-below : (n : ℕ) (hs : List ℕ) (c w : ℕ) → encode (columns_of n (take c hs)) w < 2 ^ c
columns-below n hs c w =
    encode-lt c (columns_of n (take c hs))
    (columns-inside n (take c hs) c (λ v. lt_of_lt_of_le (syndrome-lt (take c hs) v) (pow_mono (omega (arith, length-take c hs))))) w
