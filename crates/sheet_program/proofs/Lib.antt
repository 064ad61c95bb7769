pub mod InputLaws  -- how much of an input decides
