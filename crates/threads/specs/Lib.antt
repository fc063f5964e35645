pub mod Desks
pub mod Errands
pub mod Fault
pub mod Locked
pub mod Live
pub mod Outcomes
pub mod Running
pub mod Worker
