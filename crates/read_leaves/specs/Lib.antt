pub mod Leaf
pub mod Kinds
pub mod Made
