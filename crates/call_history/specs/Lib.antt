pub mod History
pub mod Recorded
pub mod Request
pub mod Engine
pub mod Reached
pub mod Logs
pub mod Desk
