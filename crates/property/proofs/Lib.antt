pub mod ContextLaws
pub mod SaidLaws
pub mod ScanLaws
pub mod TriedLaws
