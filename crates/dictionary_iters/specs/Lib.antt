pub mod Types
pub mod Iters
pub mod Readers
