pub mod Table  -- the columns, the syndrome
pub mod Outcome  -- how a word ends
pub mod Encoded  -- what encode answers
pub mod Decoded  -- what decode answers
pub mod MessageRead  -- what message answers
pub mod Widths  -- the codes of 16, 32 and 64 data bits
pub mod Inner  -- for private functions
