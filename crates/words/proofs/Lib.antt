pub mod ShapeLaws  -- causes 1 to 3
pub mod WordListLaws  -- causes 6 to 8
pub mod AcceptedLaws  -- causes 1 to 4 and the accepted matrix
pub mod CodeLaws  -- the code of an accepted matrix
pub mod ResultLaws  -- one result for each word
