pub mod Refusals
pub mod Texts
pub mod Steps
pub mod Blocks
pub mod Connections
pub mod Feeds
pub mod File
pub mod Validity
