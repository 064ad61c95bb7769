pub mod BlockLaws  -- one block of the walk
pub mod WalkLaws  -- the walk, block by block
pub mod WalkedLaws  -- what a finished walk tells
