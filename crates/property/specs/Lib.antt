pub mod Context
pub mod Lookup
pub mod Scan
