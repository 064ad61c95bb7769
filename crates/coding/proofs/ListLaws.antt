-- Laws of lists: entries of mapped and tabulated lists. Assumes nothing.
use mathlib.Core.Path.{◌≡◌, refl, sym, ap, ap₂, ◌∙◌}
use mathlib.Core.List.{List, [], ◌∷◌, map}
use Prim.Native.Nat.{ℕ, zero, suc, ◌≤◌, ◌<◌, suc-le-suc, min}
use native.Mathlib.Nat.{le_of_suc-le-suc, zero-lt-suc}
use native.Mathlib.Decide.{dec_le}
use native.Mathlib.Omega.{arith}
use lib.ListN.{length, get_or, take, drop, drop_of_length-le}
use lib.Seq.{take_all}
use Rattle.coding.specs.Lists.{tabulate}

-- an entry of a mapped list
pub get_d_map : (f : ℕ → ℕ) (l : List ℕ) (i : ℕ) → i < length l → get_or (map f l) i 0 ≡ f (get_or l i 0)
get_d_map f [] i h = absurd (omega arith)
get_d_map f (x ∷ l) zero h = refl
get_d_map f (x ∷ l) (suc i) h = get_d_map f l i (le_of_suc-le-suc h)

-- functions that agree on the entries map the list alike
pub map_same : (f g : ℕ → ℕ) (l : List ℕ) → ((i : ℕ) → i < length l → f (get_or l i 0) ≡ g (get_or l i 0)) → map f l ≡ map g l
map_same f g [] h = refl
map_same f g (x ∷ l) h = ap₂ ◌∷◌ (h 0 (omega arith)) (map_same f g l (λ i k. h (suc i) (suc-le-suc k)))

-- the first m entries, as many as there are, and those behind them
module _ (l : List ℕ) (m r : ℕ) (e : r ≡ min m (length l)) where
  pub take_most : take r l ≡ take m l
  take_most = go (dec_le m (length l))
    where
      go : Dec (m ≤ length l) → take r l ≡ take m l
      go (yes h) = let s : r ≡ m = omega arith in ap (λ (x : ℕ). take x l) s
      go (no h) = take_all r l (omega arith) ∙ sym (take_all m l (omega arith))

  pub drop_most : drop r l ≡ drop m l
  drop_most = go (dec_le m (length l))
    where
      go : Dec (m ≤ length l) → drop r l ≡ drop m l
      go (yes h) = let s : r ≡ m = omega arith in ap (λ (x : ℕ). drop x l) s
      go (no h) =
          let all : length l ≤ r = omega arith in
          let more : length l ≤ m = omega arith in
          drop_of_length-le l all ∙ sym (drop_of_length-le l more)

-- a tabulated list has one entry for each argument
pub length-tabulate : (f : ℕ → ℕ) (m : ℕ) → length (tabulate f m) ≡ m
length-tabulate f zero = refl
length-tabulate f (suc m) = ap suc (length-tabulate (λ i. f (suc i)) m)

-- entry i of a tabulated list is the value at i
pub get_d_tabulate : (f : ℕ → ℕ) (m i : ℕ) → i < m → get_or (tabulate f m) i 0 ≡ f i
get_d_tabulate f zero i h = absurd (omega arith)
get_d_tabulate f (suc m) zero h = refl
get_d_tabulate f (suc m) (suc i) h = get_d_tabulate (λ j. f (suc j)) m i (le_of_suc-le-suc h)

-- the first entries
pub take-tabulate : (f : ℕ → ℕ) (m r : ℕ) → r ≤ m → take r (tabulate f m) ≡ tabulate f r
take-tabulate f m zero h = refl
take-tabulate f zero (suc r) h = absurd (omega arith)
take-tabulate f (suc m) (suc r) h = ap (λ (l : List ℕ). f zero ∷ l) (take-tabulate (λ i. f (suc i)) m r (le_of_suc-le-suc h))

-- functions that agree below m are tabulated alike
pub tabulate_same : (f g : ℕ → ℕ) (m : ℕ) → ((i : ℕ) → i < m → f i ≡ g i) → tabulate f m ≡ tabulate g m
tabulate_same f g zero h = refl
tabulate_same f g (suc m) h =
    ap₂ ◌∷◌ (h zero (zero-lt-suc m)) (tabulate_same (λ i. f (suc i)) (λ i. g (suc i)) m (λ i l. h (suc i) (suc-le-suc l)))

-- a list tabulated by the entries of another
pub tabulate-map : (f g : ℕ → ℕ) (l : List ℕ) → ((i : ℕ) → i < length l → f i ≡ g (get_or l i 0)) → tabulate f (length l) ≡ map g l
tabulate-map f g [] h = refl
tabulate-map f g (x ∷ l) h = ap₂ ◌∷◌ (h 0 (omega arith)) (tabulate-map (λ i. f (suc i)) g l (λ i k. h (suc i) (suc-le-suc k)))
