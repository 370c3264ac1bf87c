pub mod Progress
pub mod Items
pub mod Readings
pub mod Children
pub mod Opens
