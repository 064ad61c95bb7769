pub mod Encoded  -- what Encode leaves
pub mod MessagesRead  -- what Message leaves
