pub mod Entries
pub mod Indices
pub mod Keys
pub mod Leaves
pub mod Pages
pub mod Reached
pub mod Seen
pub mod Taken
