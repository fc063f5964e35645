pub mod Marks
pub mod Tapes
pub mod SourceTapes
pub mod Stores
pub mod Opening
pub mod Lending
pub mod Delivery
