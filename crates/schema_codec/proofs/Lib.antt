pub mod InRange
pub mod Loops
pub mod Turns
