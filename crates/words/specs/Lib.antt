pub mod Limits  -- the numbers that bound a code or a call
pub mod Shape  -- causes 1 to 3
pub mod Widest  -- no number of 32 bits is refused at 32 places
pub mod Lists  -- causes 6 to 8
pub mod Accepted  -- causes 1 to 4: the accepted matrix
