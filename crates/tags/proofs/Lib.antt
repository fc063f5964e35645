pub mod Cuts
pub mod Follows
pub mod Inserted
pub mod Kept
pub mod Order
pub mod Rounding
pub mod Rows
pub mod Sorted
