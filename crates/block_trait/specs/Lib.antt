pub mod Fill
pub mod InForce
pub mod SameItem
pub mod Shape
pub mod Work
pub use Rattle.items.specs.Items
