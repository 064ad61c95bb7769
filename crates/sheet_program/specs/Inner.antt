pub mod Enough  -- how much of an input decides
