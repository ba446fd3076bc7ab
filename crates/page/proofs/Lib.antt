pub mod KeyLaws
pub mod PageLaws
pub mod Exactly
pub mod KeyFaults
pub mod EndLaws
