pub mod Faults
pub mod Building
pub mod Running
pub mod Balances
pub mod Tables
pub mod Short
pub mod Gains
