pub mod Branches
pub mod Filtered
pub mod Parts
pub mod Phased
pub mod Products
pub mod Stretches
