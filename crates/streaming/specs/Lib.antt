pub mod Beside
pub mod Draining
pub mod Levels
pub mod Streaming
pub mod Working
