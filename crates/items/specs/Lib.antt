pub mod Equality
pub mod Fault
pub mod Items
pub mod Name
pub mod Padded
pub mod Tags
