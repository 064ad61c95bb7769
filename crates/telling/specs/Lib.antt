pub mod Told  -- an answer as number and value
pub mod Reading  -- the reading as C passes it
