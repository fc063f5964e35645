pub mod Sound
pub mod Whole
pub mod Stalls
pub mod Steps
pub mod Stays
pub mod Runs
pub mod Bounds
pub mod Waits
