mod TryLaws  -- one word after the other
pub mod BuiltLaws  -- the finished list
pub mod LeaderPromiseLaws  -- what the calls promise
