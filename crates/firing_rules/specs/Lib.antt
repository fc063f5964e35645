pub mod State
pub mod Small
pub mod Situation
pub mod Fits
pub mod Counts
pub mod Decision
pub mod Firings
pub mod Waits
