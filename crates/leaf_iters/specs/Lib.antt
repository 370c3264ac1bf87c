pub mod Iters
pub mod Nulls
pub mod Indices
