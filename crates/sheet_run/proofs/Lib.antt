pub mod BatchLaws  -- lines and tally by Decode's slots
pub mod RefusalMeaning  -- what a refusal means
pub mod ClosingMeaning  -- what the closing line means
pub mod CutLaws  -- a list that is cut is refused alike
pub mod RunLaws  -- what the run leaves
