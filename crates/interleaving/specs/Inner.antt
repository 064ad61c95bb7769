pub mod Sent  -- the bits sent so far
