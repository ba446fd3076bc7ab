pub mod ContextLaws
pub mod IndexLaws
pub mod RowLaws
pub mod SaidLaws
