-- Laws of tables of sums: with each row the sums are twice as many; and the row sums of words from the tables of groups of rows.
use mathlib.Core.Path.{◌≡◌, refl, sym, ap, ap₂, ◌∙◌}
use mathlib.Core.List.{List, [], ◌∷◌, ◌++◌, map}
use Prim.Native.Nat.{ℕ, suc, ◌+◌, ◌-◌, ◌*◌, ◌/◌, ◌%◌, ◌^◌, ◌≤◌, ◌<◌, min}
use native.Mathlib.Decide.{dec_le}
use native.Mathlib.Nat.{pow-suc}
use native.Mathlib.Numerals.{add-one}
use native.Mathlib.Omega.{arith}
use lib.ListN.{length, get_or, set, take, drop, replicate, length-set, length-map, length-drop, drop_of_length-le, get_or-eq_default}
use lib.Seq.{get_or-set_same, ext_get_or, drop-cons, take_at, drop_at, drop-drop, take_all}
use denote.Ref.{Bor}
use Rattle.std.proofs.Common.{Iter}
use Rattle.std.specs.Prelude.{Option, None, Some, unwrap_or}
use Rattle.std.specs.Option.{option_copied}
use Rattle.std.specs.Slice.Iter.{iter_rest, iter_steps}
use Rattle.coding.specs.Lists.{tabulate}
use Rattle.coding.specs.Word.{◌⊕◌}
use Rattle.coding.specs.Matrix.{encode}
use Rattle.coding.proofs.ListLaws.{get_d_map, length-tabulate, get_d_tabulate, tabulate-map}
use Rattle.coding.proofs.MatrixLaws.{encode-zero, encode_top, encode_group}
use Rattle.sums.specs.Inner.Doubled.{Doubled}

-- ---- the first `half` entries are sums, of i rows: twice as many with each, until the table is full

pub record Summed (rows : List ℕ) (i half : ℕ) (table : List ℕ) : Type 0 where
  pub within : half ≤ length table
  pub few : i < half
  pub sums : (j : ℕ) → j < half → get_or table j 0 ≡ encode rows j
  pub twice : half < length table → half ≡ 2 ^ i

pub summed_start : (rows table : List ℕ) → 0 < length table → Summed rows 0 1 (set table 0 0)
summed_start rows table h = record {
  within = omega (arith, length-set table 0 0);
  few = omega arith;
  sums = λ j k.
      let e : j ≡ 0 = omega arith in
      ap (λ (x : ℕ). get_or (set table 0 0) x 0) e ∙ get_or-set_same table 0 0 0 h ∙ sym (encode-zero rows) ∙ ap (encode rows) (sym e);
  twice = λ _. refl;
}

module _ {rows : List ℕ} {i half : ℕ} {table : List ℕ} (S : Summed rows i half table) where
  pub summed_step : (count row : ℕ) (after : List ℕ) → half < length table → count ≡ min half (length table - half) → row ≡ get_or rows i 0
      → Doubled table half count row after → Summed rows (i + 1) (half + count) after
  summed_step count row after more e r D = record {
    within = omega (arith, D.size);
    few = omega (arith, S.few);
    sums = λ j k. go j k (dec_le (suc j) half);
    twice = λ k.
        let c : count ≡ half = omega (arith, D.size) in
        let p : half ≡ 2 ^ i = S.twice more in
        let q : 2 ^ (i + 1) ≡ 2 ^ suc i = ap (λ (x : ℕ). 2 ^ x) (add-one i) in
        omega (arith, pow-suc 2 i);
  }
    where
      go : (j : ℕ) → j < half + count → Dec (j < half) → get_or after j 0 ≡ encode rows j
      go j k (yes h) = D.kept j h ∙ S.sums j h
      go j k (no h) =
          let p : half ≡ 2 ^ i = S.twice more in
          let v : ℕ = j - half in
          let at : half + v ≡ j = omega arith in
          let small : v < half = omega arith in
          let low : v < 2 ^ i = omega arith in
          ap (λ (x : ℕ). get_or after x 0) (sym at) ∙ D.added v (omega arith) ∙ ap₂ ◌⊕◌ (S.sums v small) r
          ∙ sym (encode_top rows i v low) ∙ ap (λ (x : ℕ). encode rows (x + v)) (sym p) ∙ ap (encode rows) at

  pub summed_end : length table ≤ half → table ≡ tabulate (encode rows) (length table)
  summed_end h =
      ext_get_or 0 table (tabulate (encode rows) (length table)) (sym (length-tabulate (encode rows) (length table)))
      (λ j k. S.sums j (omega arith) ∙ sym (get_d_tabulate (encode rows) (length table) j k))

-- the next of the rows that are left, or 0 after the last
pub row_next : (rows : List ℕ) (i : ℕ) (s t : Iter ℕ) (r : Option (Bor ℕ)) → iter_rest s ≡ drop i rows → iter_steps s r t
    → (iter_rest t ≡ drop (i + 1) rows) × (unwrap_or (option_copied r) 0 ≡ get_or rows i 0)
row_next rows i s t None e (z, k) =
    let past : length rows ≤ i = omega (arith, length-drop i rows, ap length e) in (
      ap iter_rest k ∙ e ∙ drop_of_length-le rows past ∙ sym (drop_of_length-le rows (omega arith)),
      sym (get_or-eq_default rows 0 past),
    )
row_next rows i s t (Some x) e k =
    let more : i < length rows = omega (arith, length-drop i rows, ap length (sym e ∙ k)) in
    let both : x.now ∷ iter_rest t ≡ get_or rows i 0 ∷ drop (i + 1) rows = sym k ∙ e ∙ rw (add-one, drop-cons rows i 0 more) refl in
    (cc, cc)

-- ---- the row sums of words, one group of rows after the other

pub no_rows : (words : List ℕ) → replicate (length words) 0 ≡ map (encode []) words
no_rows [] = refl
no_rows (w ∷ words) = ap (λ (l : List ℕ). 0 ∷ l) (no_rows words)

-- to the sums by the rows up to i are added those by the group up to e, from a table of these
pub group_added : (rows words sums table after : List ℕ) (i e : ℕ) → i ≤ e → e ≤ length rows → e ≤ i + 8 → sums ≡ map (encode (take i rows)) words
    → table ≡ tabulate (encode (take (e - i) (drop i rows))) 256
    → after ≡ tabulate (λ v. get_or sums v 0 ⊕ get_or table (get_or words v 0 / 2 ^ i % 256) 0) (length sums) → after ≡ map (encode (take e rows)) words
group_added rows words sums table after i e h k few s t a = a ∙ ap (tabulate added) size ∙ tabulate-map added (encode (take e rows)) words at
  where
    size : length sums ≡ length words
    size = ap length s ∙ length-map words (encode (take i rows))

    added : ℕ → ℕ
    added v = get_or sums v 0 ⊕ get_or table (get_or words v 0 / 2 ^ i % 256) 0

    at : (v : ℕ) → v < length words → added v ≡ encode (take e rows) (get_or words v 0)
    at v l =
        let w = get_or words v 0 in
        let entry = w / 2 ^ i % 256 in
        ap₂ ◌⊕◌ (ap (λ (x : List ℕ). get_or x v 0) s ∙ get_d_map (encode (take i rows)) words v l)
        (ap (λ (x : List ℕ). get_or x entry 0) t ∙ get_d_tabulate (encode (take (e - i) (drop i rows))) 256 entry (omega arith))
        ∙ sym (encode_group rows i e w h k few)

-- after g groups of eight rows the sums are those by the rows of these, and the later rows are left
pub record Grouped (rows words : List ℕ) (g size : ℕ) (left table sums : List ℕ) : Type 0 where
  pub eight : size ≡ 8
  pub later : left ≡ drop (g * 8) rows
  pub entries : length table ≡ 256
  pub are : sums ≡ map (encode (take (g * 8) rows)) words

module _ {rows words : List ℕ} {g size : ℕ} {left table sums : List ℕ} (G : Grouped rows words g size left table sums) where
  -- the group begins before the last row
  pub group_within : 0 < length left → g * 8 < length rows
  group_within h = omega (arith, ap length G.later, length-drop (g * 8) rows)

  -- the next group is the first rows that are left
  module _ (group rest : List ℕ) (parts : left ≡ group ++ rest) (long : length group ≡ min size (length left)) (some : 0 < length left) where
    abbrev end : ℕ
    end = g * 8 + length group

    remains : length left ≡ length rows - g * 8
    remains = ap length G.later ∙ length-drop (g * 8) rows

    within : end ≤ length rows
    within = omega (arith, remains, group_within some, long)

    group_is : group ≡ take (end - g * 8) (drop (g * 8) rows)
    group_is =
        let e : end - g * 8 ≡ length group = omega arith in
        rw e (sym (take_at group rest (length group) refl) ∙ ap (take (length group)) (sym parts ∙ G.later))

    rest_is : rest ≡ drop end rows
    rest_is =
        sym (drop_at group rest (length group) refl) ∙ ap (drop (length group)) (sym parts ∙ G.later) ∙ drop-drop (length group) (g * 8) rows

    -- the group is whole, or the last
    upto : (take end rows ≡ take ((g + 1) * 8) rows) × (rest ≡ drop ((g + 1) * 8) rows)
    upto = go (dec_le 8 (length left))
      where
        go : Dec (8 ≤ length left) → (take end rows ≡ take ((g + 1) * 8) rows) × (rest ≡ drop ((g + 1) * 8) rows)
        go (yes h) =
            let e : end ≡ (g + 1) * 8 = omega (arith, long, G.eight) in
            (ap (λ (i : ℕ). take i rows) e, rest_is ∙ ap (λ (i : ℕ). drop i rows) e)
        go (no h) =
            let past : length rows ≤ end = omega (arith, remains, long, G.eight) in
            let next : length rows ≤ (g + 1) * 8 = omega (arith, remains) in (
              take_all end rows past ∙ sym (take_all ((g + 1) * 8) rows next),
              rest_is ∙ drop_of_length-le rows past ∙ sym (drop_of_length-le rows next),
            )

    pub grouped_next : {h next place : ℕ} {entries after : List ℕ} → h ≡ g + 1 → next ≡ size → place ≡ g * 8
        → entries ≡ tabulate (encode group) (length table)
        → after ≡ tabulate (λ v. get_or sums v 0 ⊕ get_or entries (get_or words v 0 / 2 ^ place % 256) 0) (length sums)
        → Grouped rows words h next rest entries after
    grouped_next e n p t a = record {
      eight = n ∙ G.eight;
      later = rw e upto.1;
      entries = ap length t ∙ length-tabulate (encode group) (length table) ∙ G.entries;
      are =
          rw e (group_added rows words sums _ _ (g * 8) end (omega arith) within (omega (arith, long, G.eight)) G.are
          (t ∙ ap₂ (λ (l : List ℕ) (n : ℕ). tabulate (encode l) n) group_is G.entries) (rw p at a)
          ∙ ap (λ (l : List ℕ). map (encode l) words) upto.0);
    }

  pub grouped_end : length left ≡ 0 → sums ≡ map (encode rows) words
  grouped_end z =
      G.are ∙ ap (λ (l : List ℕ). map (encode l) words) (take_all (g * 8) rows (omega (arith, ap length G.later, length-drop (g * 8) rows)))
