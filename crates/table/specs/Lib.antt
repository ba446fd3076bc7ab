pub mod Context
pub mod Says
pub mod RowIndex
