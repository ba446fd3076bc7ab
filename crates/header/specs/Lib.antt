pub mod Header
pub mod Sound
pub mod End
pub mod Former
