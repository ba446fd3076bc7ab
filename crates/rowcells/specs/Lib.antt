pub mod RowCells
