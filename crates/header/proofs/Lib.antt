pub mod EditionLaws
pub mod HeaderLaws
pub mod EndLaws
pub mod FormerLaws
