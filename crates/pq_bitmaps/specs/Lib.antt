pub mod Called
pub mod Filter
pub mod Selected
pub mod Stretch
pub mod Law
