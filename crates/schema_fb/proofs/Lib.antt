pub mod Built
pub mod Lengths
pub mod Loops
pub mod Named
pub mod Opened
pub mod Sizes
pub mod Steps
pub mod Turns
