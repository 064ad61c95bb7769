pub mod Description  -- what weights_of and Describe answer
pub mod Inner  -- for private functions
