pub mod Fault
pub mod Keys
pub mod Tables
pub mod Ranges
pub mod KindParameters
pub mod Kinds
pub mod Reading
