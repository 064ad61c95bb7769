pub mod Leaders  -- what leaders_of answers and leaves
pub mod LeadersBy  -- what fill_leaders answers and leaves
pub mod Inner  -- for private functions
