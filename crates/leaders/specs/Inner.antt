pub mod Built  -- what the build asks and leaves
