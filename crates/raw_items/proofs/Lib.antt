pub mod Bytes
pub mod Numbers
pub mod Parts
pub mod Pieces
pub mod RoundTrips
pub mod Steps
