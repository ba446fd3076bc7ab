pub mod BlockLaws
pub mod Exactly
pub mod TriedLaws
pub mod BitZero
pub mod KeyFaults
pub mod EndLaws
