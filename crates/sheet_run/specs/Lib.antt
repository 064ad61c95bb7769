pub mod Output  -- what is printed for a sheet
pub mod Closed  -- what the output says
pub mod Run  -- what run leaves
