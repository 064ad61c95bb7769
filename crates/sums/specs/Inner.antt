pub mod Doubled  -- a table of sums with one row more
