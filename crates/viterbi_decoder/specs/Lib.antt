pub mod Found
pub mod Model
pub mod Same
pub mod Ways
