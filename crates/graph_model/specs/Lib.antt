pub mod Rates
pub mod Graphs
pub mod Gains
