mod Sames
pub mod Views
mod Feeding
mod Growing
pub mod Beginning
pub mod Places
pub mod Capacities
pub mod Handing
pub mod Lendable
pub mod Workable
pub mod Worked
pub mod Rooms
pub mod Flights
pub mod Delivered
pub mod Deliverable
pub mod Releasable
