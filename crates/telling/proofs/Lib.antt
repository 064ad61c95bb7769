pub mod ToldLaws  -- what a call tells
