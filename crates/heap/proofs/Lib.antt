pub mod ShapeLaws
pub mod ItemLaws
