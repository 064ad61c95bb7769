pub mod ReadLaws  -- bytes that are read after others
