pub mod TallyLaws  -- the outcomes added up
