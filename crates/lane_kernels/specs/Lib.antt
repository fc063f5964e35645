pub mod Bitwise
pub mod Blocks
pub mod Streams
