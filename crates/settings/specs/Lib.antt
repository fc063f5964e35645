pub mod Fault
pub mod Timelines
pub mod Values
