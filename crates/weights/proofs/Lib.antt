pub mod DescribeLaws  -- what Describe answers
pub mod WeightSlotLaws  -- lists with an entry for each weight
pub mod OverlapSumLaws  -- sums of overlaps, weight by weight
pub mod DualCountLaws  -- the weight counts from a walk over the sums of check rows
pub mod WalkCodeLaws  -- what the walk would find, from the counts and the smallest sum
