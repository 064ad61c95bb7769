pub mod Starred  -- the value of the table
pub mod Sheets  -- the value of the table of sheets
pub mod LightestCodewords  -- the value of the table of lightest codewords
pub mod HsiaoWidths  -- the value of the table of widths
pub mod LastLeaders  -- the value of the table of last leaders
pub mod Bursts  -- the value of the table of bursts
pub mod LongestWords  -- the value of the table of the longest words
