pub mod Words
pub mod ListLaws
pub mod EndLaws
