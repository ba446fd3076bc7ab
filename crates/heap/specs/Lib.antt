pub mod Shape
pub mod Items
