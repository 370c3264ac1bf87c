pub mod Answers
pub mod Depth
pub mod Examples
pub mod FromTree
pub mod Leaves
