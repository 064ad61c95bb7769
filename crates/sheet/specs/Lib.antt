pub mod Fault  -- causes 12 and 13
pub mod Field  -- one field
pub mod Words  -- words of four bytes
pub mod Sheet  -- the sheet that bytes say
pub mod Written  -- the bytes of a written sheet
pub mod SheetRead  -- what read answers
