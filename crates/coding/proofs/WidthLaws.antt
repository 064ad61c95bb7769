-- Laws of the width: zero rows at the end of a table change nothing, so the reduced rows in m places are those in n places with
-- zeros after them, and so are the check rows and syndromes. Assumes nothing.
use mathlib.Core.Path.{◌≡◌, refl, sym, ap, ap₂, ◌∙◌}
use mathlib.Core.List.{List, [], ◌∷◌, ◌++◌, map}
use Prim.Native.Nat.{ℕ, zero, suc, ◌+◌, ◌-◌, ◌*◌, ◌/◌, ◌%◌, ◌^◌, ◌≤◌, ◌<◌, suc-le-suc}
use native.Mathlib.Nat.{suc-ne-zero, lt_of_lt_of_le}
use native.Mathlib.Decide.{ℕ_discrete, dec_le}
use native.Mathlib.Omega.{arith}
use lib.ListN.{length, set, length-map}
use lib.Seq.{set-append_left}
use lib.Pow.{pow_mono}
use lib.Count.{count_trailing_zeros}
use Rattle.coding.specs.Lists.{zeros}
use Rattle.coding.specs.Word.{◌⊕◌, bit}
use Rattle.coding.specs.Matrix.{sel, encode, Inside}
use Rattle.coding.specs.Reduced.{Leads}
use Rattle.coding.specs.Reduce.{rest, wipe, put, add_to, reduce_from, reduce, rows_of}
use Rattle.coding.specs.Check.{column, syndrome}
use Rattle.coding.proofs.WordLaws.{bit_of_zero}
use Rattle.coding.proofs.WeightLaws.{parity-zero}
use Rattle.coding.proofs.CheckLaws.{sel-zero}
use Rattle.coding.proofs.PivotLaws.{ByPlace}
use Rattle.coding.proofs.ReduceLaws.{IsLead, is_lead, added, start, rest_lt, wipe-zero}

-- words of n places are words of m places
pub inside_wide : (n m : ℕ) → n ≤ m → (rs : List ℕ) → Inside n rs → Inside m rs
inside_wide n m wide rs f i h = lt_of_lt_of_le (f i h) (pow_mono wide)

-- ---- zero rows at the end

zeros-encode : (m u : ℕ) → encode (zeros m) u ≡ 0
zeros-encode zero u = refl
zeros-encode (suc m) u = ap₂ ◌⊕◌ (sel-zero (u % 2)) (zeros-encode m (u / 2))

pub encode-zeros : (B : List ℕ) (m u : ℕ) → encode (B ++ zeros m) u ≡ encode B u
encode-zeros [] m u = zeros-encode m u
encode-zeros (b ∷ B) m u = ap (λ (x : ℕ). sel (u % 2) b ⊕ x) (encode-zeros B m (u / 2))

zeros-column : (m q : ℕ) → column (zeros m) q ≡ 0
zeros-column zero q = refl
zeros-column (suc m) q = omega (arith, bit_of_zero q, zeros-column m q)

pub column-zeros : (B : List ℕ) (m q : ℕ) → column (B ++ zeros m) q ≡ column B q
column-zeros [] m q = zeros-column m q
column-zeros (b ∷ B) m q = ap (λ (x : ℕ). bit b q + 2 * x) (column-zeros B m q)

zeros-syndrome : (m w : ℕ) → syndrome (zeros m) w ≡ 0
zeros-syndrome zero w = refl
zeros-syndrome (suc m) w = omega (arith, parity-zero w, zeros-syndrome m w)

pub syndrome-zeros : (hs : List ℕ) (m w : ℕ) → syndrome (hs ++ zeros m) w ≡ syndrome hs w
syndrome-zeros [] m w = zeros-syndrome m w
syndrome-zeros (h ∷ hs) m w = ap (λ (x : ℕ). Rattle.coding.specs.Word.parity w h + 2 * x) (syndrome-zeros hs m w)

zeros_rows : (m : ℕ) → rows_of (zeros m) ≡ []
zeros_rows zero = refl
zeros_rows (suc m) = zeros_rows m

pub rows_zeros : (B : List ℕ) (m : ℕ) → rows_of (B ++ zeros m) ≡ rows_of B
rows_zeros [] m = zeros_rows m
rows_zeros (zero ∷ B) m = rows_zeros B m
rows_zeros (suc b ∷ B) m = ap (λ (l : List ℕ). suc b ∷ l) (rows_zeros B m)

-- ---- a word has one leftmost one, whatever number of places it is looked for in

lead_one : (w p q : ℕ) → Leads w p → Leads w q → p ≡ q
lead_one w p q f g = go (ℕ_discrete p q) (dec_le p q)
  where
    go : Dec (p ≡ q) → Dec (p ≤ q) → p ≡ q
    go (yes e) l = e
    go (no ne) (yes l) = absurd (omega (arith, f.one, g.none_before p (omega arith)))
    go (no ne) (no l) = absurd (omega (arith, g.one, f.none_before q (omega arith)))

-- ---- the reduction in m places

map-zeros : (f : ℕ → ℕ) → f 0 ≡ 0 → (B : List ℕ) (k : ℕ) → map f (B ++ zeros k) ≡ map f B ++ zeros k
map-zeros f z [] zero = refl
map-zeros f z [] (suc k) = ap₂ ◌∷◌ z (map-zeros f z [] k)
map-zeros f z (b ∷ B) k = ap (λ (l : List ℕ). f b ∷ l) (map-zeros f z B k)

module _ (n m : ℕ) (wide : n ≤ m) where
  add-zeros : (B : List ℕ) → length B ≡ n → (x : ℕ) → x < 2 ^ n → add_to m (B ++ zeros (m - n)) x ≡ add_to n B x ++ zeros (m - n)
  add-zeros B size zero h = refl
  add-zeros B size (suc y) h =
      let L : IsLead n (suc y) (count_trailing_zeros n (suc y)) = is_lead n (suc y) h (suc-ne-zero y) in
      let M : IsLead m (suc y) (count_trailing_zeros m (suc y)) = is_lead m (suc y) (lt_of_lt_of_le h (pow_mono wide)) (suc-ne-zero y) in
      let e : count_trailing_zeros m (suc y) ≡ count_trailing_zeros n (suc y) = lead_one (suc y) _ _ M.leads L.leads in
      let q = count_trailing_zeros n (suc y) in
      let f = wipe q (suc y) in
      let k : q < length (map (wipe q (suc y)) B) = rw (length-map B (wipe q (suc y)), size) L.inside in
      ap (λ (t : ℕ). put t (B ++ zeros (m - n)) (suc y)) e
      ∙ ap (λ (l : List ℕ). set l q (suc y)) (map-zeros (wipe q (suc y)) (wipe-zero q (suc y)) B (m - n))
      ∙ set-append_left (map (wipe q (suc y)) B) (zeros (m - n)) q (suc y) k

  reduce-zeros : (rs B : List ℕ) → ByPlace n B → Inside n rs → reduce_from m (B ++ zeros (m - n)) rs ≡ reduce_from n B rs ++ zeros (m - n)
  reduce-zeros [] B R f = refl
  reduce-zeros (r ∷ rs) B R f =
      let e : rest (B ++ zeros (m - n)) r ≡ rest B r = ap (λ (x : ℕ). r ⊕ x) (encode-zeros B (m - n) r) in
      let h : r < 2 ^ n = f 0 (omega arith) in
      ap (λ (A : List ℕ). reduce_from m A rs) (ap (add_to m (B ++ zeros (m - n))) e ∙ add-zeros B R.size (rest B r) (rest_lt n B R r h))
      ∙ reduce-zeros rs (add_to n B (rest B r)) (added n B R r h).reduced (λ i l. f (suc i) (suc-le-suc l))

  zeros-split : zeros m ≡ zeros n ++ zeros (m - n)
  zeros-split = let e : m ≡ n + (m - n) = omega arith in ap zeros e ∙ sym (lib.ListN.replicate-append-replicate n (m - n) 0)

  -- the reduced rows in m places are those in n places, and zeros
  pub reduce_wide : (rs : List ℕ) → Inside n rs → reduce m rs ≡ reduce n rs ++ zeros (m - n)
  reduce_wide rs f = ap (λ (B : List ℕ). reduce_from m B rs) zeros-split ∙ reduce-zeros rs (zeros n) (start n) f
