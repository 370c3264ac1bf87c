pub mod Columns
pub mod Encoded
pub mod Forms
pub mod PathLeaf
pub mod Restated
