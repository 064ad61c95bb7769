pub mod Decimal  -- numbers in digits
pub mod Text  -- texts as bytes
pub mod Line  -- the parts of a line
pub mod Closing  -- the closing line
pub mod Appended  -- bytes put from a position on
pub mod Put  -- what printing leaves in a list
pub mod Batch  -- the lines of a batch by Decode's slots
pub mod Shown  -- what the lines of a text show
pub mod Inner  -- for private functions
