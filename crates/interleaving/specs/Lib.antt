pub mod Causes  -- causes 16 and 17, and those of each call
pub mod Interleaved  -- what sending leaves
pub mod Deinterleaved  -- what sorting back leaves
pub mod Decoded  -- what the decode answers and leaves
pub mod Inner  -- for private functions
