pub mod Tree
pub mod Lookup
pub mod Answers
pub mod Ways
pub mod Listing
pub mod Demand3
pub mod Sound
pub mod KeyFaults
