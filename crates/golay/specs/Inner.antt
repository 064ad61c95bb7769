pub mod Lanes  -- numbers side by side
pub mod Steps  -- 000's steps
