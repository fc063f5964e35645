pub mod Ends
pub mod Kind
pub mod KindNames
