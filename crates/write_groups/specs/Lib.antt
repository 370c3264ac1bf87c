pub mod Given
pub mod Columns
pub mod Writing
pub mod Laid
pub mod Accepted
