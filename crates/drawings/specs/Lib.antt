pub mod Pieces
pub mod Parts
pub mod Words
pub mod Dot
pub mod Mermaid
pub mod Drawings
