mod Flights
mod Histories
pub mod Owned
mod Records
mod Requests
mod Sames
mod Stepping
pub mod Weighing
