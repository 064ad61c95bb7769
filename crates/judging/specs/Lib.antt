pub mod Causes  -- causes 1 to 5
pub mod Known  -- what is known past causes
