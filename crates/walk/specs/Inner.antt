pub mod Block  -- one block of the walk
