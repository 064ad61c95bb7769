-- The columns of the check places that hold a 1 add up to the check byte.
use Rattle.std.proofs.Common.{◌≡◌, sym, ap₂, ◌∙◌, ◌^◌, ◌<◌, arith}
use Rattle.coding.specs.Word.{◌⊕◌}
use Rattle.coding.specs.Columns.{SplitPlaces}
use Rattle.coding.proofs.LinearLaws.{identity_rows}
use Rattle.hsiao.specs.Table.{columns, split, syndrome_of}
use Rattle.hsiao.proofs.HsiaoTableLaws.{word-places}
use Rattle.hsiao.proofs.syndromes.syndrome.Goals as goal

pub returns : goal.returns
returns c =
    let w = c.args.w in
    let h : w.check < 2 ^ 8 = omega arith in
    let places : SplitPlaces 8 columns (split w) = word-places w h (omega arith) in
    let e : w.check ⊕ c.column_sum.result ≡ syndrome_of w = ap₂ ◌⊕◌ (sym (identity_rows 8 w.check h)) c.column_sum.ensures in
    record { sum = e; codeword = ((λ z. record { places = places; zero_syndrome = sym e ∙ z }), λ C. e ∙ C.zero_syndrome) }
