pub mod LeastSum  -- the search by rising number of rows
