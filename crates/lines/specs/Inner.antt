pub mod Room  -- how many bytes writers ask for
pub mod Wrote  -- what a writer leaves
