pub mod Stepping
pub mod Trees
pub mod Items
pub mod Wholes
pub mod Reasons
pub mod Openings
pub mod Given
pub mod Opens
mod Readers
