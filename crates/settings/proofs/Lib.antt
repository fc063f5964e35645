pub mod Cuts
pub mod Entries
pub mod Latest
pub mod Made
pub mod Pruned
pub mod Sames
