pub mod Tables
pub mod Paths
pub mod Rows
pub mod Sliced
pub mod Steps
pub mod Worked
