pub mod HsiaoTableLaws  -- the table of columns
pub mod DiagonalLaws  -- the sum of columns by diagonals
pub mod PlaceLaws  -- the place of a column
pub mod SingleErrorLaws  -- the outcome by tests of the syndrome
pub mod HsiaoDecodeLaws  -- what Encode and Decode promise
pub mod WidthCodeLaws  -- the codes of the three widths
pub mod WidthAnswerLaws  -- what the calls with a width answer
