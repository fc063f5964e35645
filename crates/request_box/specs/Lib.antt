pub mod Dues
pub mod WayBack
