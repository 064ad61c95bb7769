pub mod Lists  -- small tools: first index, zeros, tabulate
pub mod Word  -- words: sum, place, weight, distance
pub mod Matrix  -- sums of rows, codewords, messages, independence
pub mod Reduced  -- the reduced row echelon form
pub mod Reduce  -- how it is computed
pub mod Check  -- check rows and syndromes
pub mod Lightest  -- the lightest, then smallest of the numbers that pass a test
pub mod Weight  -- weight counts, minimum distance, the lightest codeword
pub mod Dual  -- the dual code and the MacWilliams identity
pub mod Leader  -- coset leaders
pub mod Order  -- words by weight and number, and the list they fill
pub mod Tries  -- how many of them are tried, and the place of the last leader
pub mod Radius  -- demand 3
pub mod Interleaving  -- interleaved words and bursts
pub mod Systematic  -- a matrix [P | I]
pub mod Columns  -- codes given by columns
pub mod Inner  -- for private functions
