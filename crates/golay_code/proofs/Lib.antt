pub mod GolayLaws  -- accepted, minimum distance 8, P times P
