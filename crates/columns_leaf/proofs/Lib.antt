pub mod Lens
pub mod Texts
pub mod Widths
