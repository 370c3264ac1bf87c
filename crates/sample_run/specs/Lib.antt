pub mod Files
pub mod Chunks
pub mod Items
pub mod Refused
pub mod Putting
