pub mod Layout
pub mod Page
pub mod Sound
pub mod KeyFaults
