mod Calling
mod Counting
mod Entries
mod HandleRows
mod HandleValues
mod LooseValues
pub mod Showing
pub mod Variants
mod TableRows
mod Texts
