pub mod Pieces
pub mod Leaves
