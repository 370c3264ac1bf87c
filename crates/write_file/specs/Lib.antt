pub mod Leaves
pub mod Pages
pub mod Files
pub mod Foot
