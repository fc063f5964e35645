pub mod Growing
pub mod Ends
