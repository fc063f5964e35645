pub mod Fault
pub mod State
