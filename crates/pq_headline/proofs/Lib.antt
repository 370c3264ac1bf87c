pub mod RowsOf
pub mod Joined
pub mod Groups
pub mod Cutting
pub mod Written
pub mod Pieces
pub mod Depths
pub mod Alike
pub mod Passed
pub mod Refused
pub mod Settling
pub mod Plain
mod PassedSchema
pub mod Ways
