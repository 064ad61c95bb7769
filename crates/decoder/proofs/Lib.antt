pub mod DecodeCauseLaws  -- causes 1 to 9
mod SlotLaws  -- the slots by the list of leaders
mod DecodePromiseLaws  -- what Decode promises
