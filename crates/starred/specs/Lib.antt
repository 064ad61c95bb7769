pub mod Matrices  -- the matrices of the examples
pub mod Starred  -- the table
pub mod Sheets  -- the sheets, and what is printed for them
pub mod Causes  -- every cause, its number and its value
pub mod LightestCodewords  -- the lightest codeword of each matrix
pub mod HsiaoWidths  -- the codes of 16 and 32 data bits
pub mod LastLeaders  -- the leader that comes last of each matrix
pub mod Bursts  -- words of 01's (7,4) sent interleaved
pub mod LongestWords  -- n and k at their limits, words of 32 places
