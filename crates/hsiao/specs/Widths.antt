pub mod Code  -- their columns
pub mod Causes  -- causes 14 and 15
pub mod Encoded  -- what encode answers
pub mod Decoded  -- what decode answers
pub mod MessageRead  -- what message answers
