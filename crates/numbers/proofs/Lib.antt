pub mod Mapped
pub mod Rounding
pub mod Same
pub mod Widths
