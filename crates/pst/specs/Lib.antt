pub mod Meaning
pub mod Outcomes
pub mod Demands
