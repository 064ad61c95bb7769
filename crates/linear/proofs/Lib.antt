mod RowPackLaws  -- rows read off a table
mod RowClearLaws  -- the elimination's loops
pub mod PivotTableLaws  -- the table of an accepted matrix
mod EliminatedLaws  -- the finished elimination
