pub mod Slices
pub mod Tags
pub mod Pieces
pub mod Counting
pub mod Jumps
pub mod Joining
