pub mod Codes
pub mod Kinds
pub mod Runs
pub mod Rates
pub mod Trellis
