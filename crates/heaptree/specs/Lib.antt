pub mod Value
pub mod Root
pub mod Branches
pub mod Lookup
pub mod Sound
pub mod Scan
pub mod Steps
