pub mod Walked  -- what the walk has found
pub mod Inner  -- for private functions
