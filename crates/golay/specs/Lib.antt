pub mod Encoded  -- what encode answers
pub mod Decoded  -- what decode answers
pub mod MessageRead  -- what message answers
pub mod Inner  -- for private functions
