pub mod Editions
pub mod Fair
