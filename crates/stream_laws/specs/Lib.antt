pub mod CanRun
pub mod Cuts
pub mod Tags
pub mod Past
pub mod Firings
pub mod Putting
