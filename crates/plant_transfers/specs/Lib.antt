pub mod Places
pub mod Rows
pub mod Spare
pub mod Steps
pub mod Tags
pub mod Windows
