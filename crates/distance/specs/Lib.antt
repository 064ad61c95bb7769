pub mod Distance  -- what distance_of answers
pub mod SmallestSum  -- the smallest word of a weight among the sums of few rows
pub mod Inner  -- for private functions
