pub mod CauseLaws  -- causes 1 to 5, and what is known past them
