pub mod AppendLaws  -- writers one after another
pub mod WroteLaws  -- writers one after the other
pub mod DecimalLaws  -- decimal digits
pub mod DecimalMeaning  -- what the digits mean
pub mod LineLaws  -- the parts of a line
pub mod DigitLaws  -- digits put eight at a time
pub mod ShownLaws  -- what endings show, and texts cut at a character
pub mod LineMeaning  -- the lines as texts, and what the closing line says
