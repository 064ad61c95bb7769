pub mod Overlap  -- the weight counts from those of the sums of the check rows
