pub mod Fills
pub mod InForce
pub mod Inputs
pub mod Outputs
