pub mod LeastSumLaws  -- the least weight by rising number of rows
