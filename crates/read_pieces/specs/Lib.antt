pub mod Pieces
pub mod Leaves
pub mod Columns
