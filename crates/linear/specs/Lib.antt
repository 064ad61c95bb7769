pub mod Judged  -- what accept answers
pub mod ReducedRows  -- what reduced_rows answers
pub mod Reduction  -- what reduce answers
pub mod Inner  -- for private functions
