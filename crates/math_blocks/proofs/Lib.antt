pub mod Companded
pub mod Holding
pub mod Joining
pub mod Muted
pub mod Numbered
pub mod Settings
pub mod Stretches
pub mod Summed
