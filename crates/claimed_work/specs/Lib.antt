pub mod Copies
pub mod Jobs
