pub mod Told
pub mod Totals
pub mod Written
