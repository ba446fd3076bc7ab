pub mod Record
pub mod Columns
pub mod Sound
