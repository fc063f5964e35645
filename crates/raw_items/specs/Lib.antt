pub mod Decoding
pub mod Layout
pub mod Values
