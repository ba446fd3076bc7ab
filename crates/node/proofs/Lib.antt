pub mod Numbers
pub mod Kids
pub mod Outcomes
pub mod Exactly
pub mod TriedLaws
pub mod Most
pub mod KeyFaults
pub mod EndLaws
