pub mod Shaped
pub mod Windows
