pub mod HeldLaws
pub mod RowLaws
pub mod CellLaws
pub mod TriedLaws
pub mod WithinLaws
