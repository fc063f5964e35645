pub mod AtDesk
pub mod Faults
pub mod Serve
pub mod Threads
