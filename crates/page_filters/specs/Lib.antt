pub mod Filters
pub mod Opened
