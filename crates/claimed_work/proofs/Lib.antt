pub mod Copied
pub mod Feeding
