-- The codes of the three widths: the columns of a width are the first ones of the table, so that syndrome and outcome are those of the
-- (72,64) code shortened to the width.
use mathlib.Core.Path.{◌≡◌, refl, sym, ap, ap₂, ◌∙◌}
use mathlib.Core.Logic.{◌≢◌}
use mathlib.Core.Bool.{Bool, true, false, ◌&&◌, ◌||◌}
use mathlib.Core.List.{List, ◌++◌, map}
use Prim.Native.Nat.{ℕ, ◌^◌, ◌≤◌, ◌<◌}
use native.Mathlib.Nat.{lt_of_lt_of_le}
use lib.Dec.{T, eqb, lit≤, lit<}
use lib.Count.{ones, ones_in}
use lib.ListN.{length, get_or, take}
use lib.Pow.{pow_mono}
use lib.Bits.{xor_lt}
use borrow.Author.Tests.{eqb-true, ne_eqb, lt-ltb, ltb-true}
use Rattle.coding.specs.Lists.{total}
use Rattle.coding.specs.Word.{◌⊕◌, weight}
use Rattle.coding.specs.Matrix.{encode}
use Rattle.coding.specs.Columns.{units, split_syndrome, SplitPlaces, OddColumns, SplitMinimumDistance}
use Rattle.coding.proofs.SearchLaws.{true_false}
use Rattle.coding.proofs.LinearLaws.{identity_rows}
use Rattle.coding.proofs.MatrixLaws.{encode-lt, encode-take}
use Rattle.coding.proofs.ColumnLaws.{four_exactly}
use Rattle.coding.proofs.ColumnTestLaws.{odd_columns, odd-columns}
use Rattle.hsiao.specs.Table.{columns, split, syndrome_of}
use Rattle.hsiao.specs.Outcome.{outcome_at, outcome_by}
use Rattle.hsiao.specs.Widths.Code.{is_width, checks_of, columns_of, ones_of, WidthTable}
use Rattle.hsiao.specs.Widths.Causes.{has_places}
use Rattle.hsiao.specs.declared.word.Word.{Word}
use Rattle.hsiao.proofs.HsiaoTableLaws.{columns-odd, columns-length, distance-four, table_is}
use Rattle.hsiao.proofs.HsiaoDecodeLaws.{fewer_checks}

pub record WidthCode (m : ℕ) : Type 0 where
  pub checks : checks_of m ≤ 8
  pub front : columns_of m ≡ take m columns
  pub table : WidthTable m
  pub minimum : SplitMinimumDistance (checks_of m) (columns_of m) 4

-- what a width's columns have to pass; the first has weight 3
coded : (m : ℕ) → checks_of m ≤ 8 → columns_of m ≡ take m columns → length (columns_of m) ≡ m → T (odd_columns (checks_of m) (columns_of m))
    → total (map weight (units (checks_of m) ++ columns_of m)) ≡ ones_of m → 0 < length (columns_of m) → weight (get_or (columns_of m) 0 0) ≡ 3 → WidthCode m
coded m c f l t o s e =
    let K : OddColumns (checks_of m) (columns_of m) = odd-columns (checks_of m) (columns_of m) t in
    record {
      checks = c;
      front = f;
      table = record { size = l; odd = K; ones = o };
      minimum = four_exactly (checks_of m) (columns_of m) K 0 s e;
    }

-- computed
at_16 : WidthCode 16
unfolding columns columns_of odd_columns ones_in ones
at_16 = coded 16 (lit≤ tt) refl refl tt refl (lit< tt) refl

at_32 : WidthCode 32
unfolding columns columns_of odd_columns ones_in ones
at_32 = coded 32 (lit≤ tt) refl refl tt refl (lit< tt) refl

at_64 : WidthCode 64
unfolding columns columns_of
at_64 = record {
  checks = lit≤ tt;
  front = refl;
  table = record { size = columns-length; odd = columns-odd; ones = table_is.ones };
  minimum = distance-four;
}

pub width_code : (m : ℕ) → is_width m ≡ true → WidthCode m
width_code m = go (eqb m 16) (eqb m 32) (eqb m 64) refl refl refl
  where
    go : (b₁ b₂ b₃ : Bool) → eqb m 16 ≡ b₁ → eqb m 32 ≡ b₂ → eqb m 64 ≡ b₃ → b₁ || (b₂ || b₃) ≡ true → WidthCode m
    go true b₂ b₃ e₁ e₂ e₃ t = rw (eqb-true m 16 e₁) at_16
    go false true b₃ e₁ e₂ e₃ t = rw (eqb-true m 32 e₂) at_32
    go false false true e₁ e₂ e₃ t = rw (eqb-true m 64 e₃) at_64
    go false false false e₁ e₂ e₃ t = absurd (true_false t refl)

-- anything else is no width
pub no_width : (m : ℕ) → m ≢ 16 → m ≢ 32 → m ≢ 64 → is_width m ≡ false
no_width m a b c = rw (ne_eqb m 16 a, ne_eqb m 32 b, ne_eqb m 64 c) refl

module _ (m : ℕ) (C : WidthCode m) (w : Word) where
  pub places_of : has_places (checks_of m) m w ≡ true → SplitPlaces (checks_of m) (columns_of m) (split w)
  places_of t =
      let (a, b) = both _ _ t in
      record { check = ltb-true w.check (2 ^ checks_of m) a; info = rw C.table.size (ltb-true w.«data» (2 ^ m) b) }
    where
      both : (a b : Bool) → a && b ≡ true → (a ≡ true) × (b ≡ true)
      both true b e = (refl, e)
      both false b e = absurd (true_false e refl)

  pub has_places_lem : SplitPlaces (checks_of m) (columns_of m) (split w) → has_places (checks_of m) m w ≡ true
  has_places_lem P =
      ap₂ ◌&&◌ (lt-ltb w.check (2 ^ checks_of m) P.check) (lt-ltb w.«data» (2 ^ m) (rw C.table.size at P.info))

  module _ (P : SplitPlaces (checks_of m) (columns_of m) (split w)) where
    pub syndrome_is : syndrome_of w ≡ split_syndrome (checks_of m) (columns_of m) (split w)
    syndrome_is =
        ap₂ ◌⊕◌
        (identity_rows 8 w.check (lt_of_lt_of_le P.check (pow_mono C.checks)) ∙ sym (identity_rows (checks_of m) w.check P.check))
        (sym (encode-take columns m w.«data» (rw C.table.size at P.info)) ∙ ap (λ (l : List ℕ). encode l w.«data») (sym C.front))

    syndrome-lt : split_syndrome (checks_of m) (columns_of m) (split w) < 2 ^ checks_of m
    syndrome-lt =
        xor_lt (checks_of m) (encode (units (checks_of m)) w.check) (encode (columns_of m) w.«data»)
        (rw (identity_rows (checks_of m) w.check P.check) P.check)
        (encode-lt (checks_of m) (columns_of m) C.table.odd.inside w.«data»)

    pub outcome_is : (s : ℕ) → s ≡ syndrome_of w → outcome_at 8 (take m columns) w s ≡ outcome_by (checks_of m) (columns_of m) w
    outcome_is s e =
        ap₂ (λ (l : List ℕ) (x : ℕ). outcome_at 8 l w x) (sym C.front) (e ∙ syndrome_is)
        ∙ fewer_checks (checks_of m) 8 C.checks _ syndrome-lt (columns_of m) w
