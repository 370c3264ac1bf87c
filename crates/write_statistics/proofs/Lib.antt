pub mod Bounds
pub mod Further
pub mod Kept
pub mod Told
