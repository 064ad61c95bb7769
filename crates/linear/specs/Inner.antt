pub mod Eliminated  -- what the elimination ends with
