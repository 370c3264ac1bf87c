pub mod Paths
pub mod Lanes
pub mod FieldCode
pub mod Giving
pub mod Opened
pub mod Read
