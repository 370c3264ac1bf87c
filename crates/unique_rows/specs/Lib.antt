pub mod Held
pub mod Rewritten
pub mod Valid
pub mod Worked
