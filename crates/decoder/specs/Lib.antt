pub mod Causes  -- causes 1 to 9
pub mod Decoded  -- what Decode answers and leaves
pub mod Given  -- the batch and the lent lists as values of the program
pub mod Inner  -- for private functions
