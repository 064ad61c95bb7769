pub mod Outcome  -- how a word ends
