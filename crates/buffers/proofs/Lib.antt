pub mod Readers
pub mod Wanted
