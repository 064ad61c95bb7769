mod BitLaws  -- causes 16 and 17
mod SendLaws  -- the loops that send
mod SortLaws  -- the loops that sort back
mod InterleavePromiseLaws  -- what sending and sorting back promise
mod BurstDecodeLaws  -- what the decode promises
