pub mod Tables
pub mod Checks
pub mod Frames
pub mod Bytes
pub mod Machines
pub mod Trellises
