pub mod Taken
pub mod Joining
pub mod Children
pub mod Types
pub mod Opening
pub mod Collected
