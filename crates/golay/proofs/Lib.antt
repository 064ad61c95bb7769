pub mod LaneLaws  -- numbers side by side in a word
pub mod NearLaws  -- the rows of P near a word
pub mod PatternLaws  -- 000's steps find the error pattern
pub mod GolayDecodeLaws  -- what the Golay calls promise
