mod CheckPackLaws  -- check rows read off a table
pub mod ParityLaws  -- the check rows are those of the definition
pub mod CodeOfLaws  -- what the code leaves known to a caller
pub mod SyndromeLaws  -- the syndromes of a batch
pub mod CheckColumnLaws  -- the columns of check rows
pub mod DigitLaws  -- the digits of a list's entries joined
