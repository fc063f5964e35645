pub mod Cheapest
pub mod Costs
pub mod Compared
pub mod Rows
pub mod TwoWays
pub mod LastStates
pub mod Traced
