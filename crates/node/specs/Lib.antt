pub mod Content
pub mod Named
pub mod Tried
pub mod Steps
