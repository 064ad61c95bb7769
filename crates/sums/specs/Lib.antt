pub mod Inner  -- for private functions
