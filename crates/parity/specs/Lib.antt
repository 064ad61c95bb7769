pub mod CheckColumns  -- the columns of the check rows
pub mod Syndromes  -- what syndromes leaves
pub mod ParityChecks  -- what parity_checks and code_of answer
pub mod Inner  -- for private functions
