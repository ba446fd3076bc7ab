pub mod Entries
pub mod Remainders
