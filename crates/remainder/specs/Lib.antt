pub mod Remainder
