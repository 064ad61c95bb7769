pub mod Tally  -- the outcomes added up
pub mod Slots  -- the outcomes that slots of the counts tell
