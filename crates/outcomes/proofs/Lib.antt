pub mod DemandLaws  -- demand 3 of the outcome of a word
