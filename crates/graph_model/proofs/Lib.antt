pub mod FiringCounts
pub mod Gains
pub mod Growth
pub mod Room
pub mod Sizes
