pub mod SlotsBy  -- the slots by lists
