pub mod Parts
pub mod Forgetting
pub mod Counts
pub mod PastSettings
pub mod Walks
