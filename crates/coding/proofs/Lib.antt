pub mod ListLaws  -- entries of mapped and tabulated lists
pub mod SearchLaws  -- the first index that passes, the first message of a word
pub mod LoopLaws  -- invariants that loops share
pub mod CountLaws  -- how many numbers pass a test
pub mod TestLaws  -- computed tests and the rules they stand for
pub mod WordLaws  -- sums and places of words
pub mod WeightLaws  -- weight, distance and parity; the metric
pub mod MachineLaws  -- shifts and masks as the code writes them
pub mod MatrixLaws  -- sums of rows, codewords
pub mod LinearLaws  -- a linear map by its columns
pub mod CheckLaws  -- check rows and syndromes of any rows
pub mod JoinedLaws  -- digits joined into a word
pub mod PivotLaws  -- reduced rows by place
pub mod ReduceLaws  -- the reduction keeps shape and span
pub mod DependLaws  -- dependent and independent rows
pub mod TraceLaws  -- messages beside the reduced rows
pub mod EliminateLaws  -- the elimination row by row
pub mod WidthLaws  -- zeros at the end of a table change nothing
pub mod CompactLaws  -- rows and free places read off a table
pub mod EchelonLaws  -- the reduced rows are the echelon form
pub mod UniqueLaws  -- there is no other
pub mod CheckRowLaws  -- 01's check rows; syndrome 0 exactly on codewords
pub mod WeightCountLaws  -- weight counts by messages
pub mod SumLaws  -- sums, exchanged with counts and gathered by value
pub mod OverlapLaws  -- words that share an even or odd number of places with a word
pub mod DualLaws  -- the MacWilliams identity
pub mod DistanceLaws  -- the minimum distance
pub mod PivotWeightLaws  -- sums of reduced rows weigh at least as many as they are
pub mod LightestLaws  -- the search for the lightest, then smallest
pub mod LightestCodewordLaws  -- the lightest codeword
pub mod SpreadLaws  -- a word for each syndrome
pub mod OrderLaws  -- words by weight and number
pub mod LeaderLaws  -- the coset leaders; the nearest codeword
pub mod RadiusLaws  -- demand 3 from the metric
pub mod BuildLaws  -- the list that words fill
pub mod OrderedLaws  -- the order as a list
pub mod TriesLaws  -- how many words are tried
pub mod InterleavingLaws  -- interleaved words and bursts
pub mod SystematicLaws  -- a matrix [P | I]
pub mod ColumnLaws  -- codes given by columns
pub mod ColumnTestLaws  -- one computed test of columns
