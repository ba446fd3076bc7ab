pub mod Words
pub mod ReadLaws
