pub mod Block
pub mod Tried
pub mod Sound
