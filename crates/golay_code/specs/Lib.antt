pub mod Golay  -- the matrix
