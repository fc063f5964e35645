pub mod Ranges
pub mod SlowestReader
pub mod Windows
pub mod Written
pub mod Zeros
