pub mod Between
pub mod Extremes
pub mod Laws
pub mod Spelled
pub mod Stated
