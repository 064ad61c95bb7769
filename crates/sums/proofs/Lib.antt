pub mod TableLaws  -- tables of sums
