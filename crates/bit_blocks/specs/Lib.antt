pub mod Codes
pub mod Jumps
pub mod Kinds
pub mod Marked
pub mod Packed
pub mod Registers
pub mod Scrambled
