pub mod Joined  -- one more digit of each syndrome
