pub mod Opening
pub mod Accepted
