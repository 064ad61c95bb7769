pub mod Version  -- the version
