pub mod SpanLaws  -- the words of a span
pub mod FieldLaws  -- fields one after the other
pub mod WrittenLaws  -- a written sheet is read as it was written
pub mod PlacedLaws  -- rows and words stand within the bytes
pub mod StepsMeaning  -- what the steps of the reader mean
