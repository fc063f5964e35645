pub mod Filters
pub mod Kinds
pub mod Parameters
pub mod Polyphase
