pub mod Number  -- the number of a column
