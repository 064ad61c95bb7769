mod EncoderLaws  -- what Encode and Message promise
