pub mod Suiting
pub mod Worked
