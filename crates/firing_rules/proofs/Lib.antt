pub mod Tests
pub mod Loops
pub mod Looks
pub mod Decides
pub mod Running
pub mod Counters
pub mod Awaiting
