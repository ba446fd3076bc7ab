pub mod MarkLaws
pub mod SureLaws
pub mod TagLaws
