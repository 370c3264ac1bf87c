pub mod Cuts
pub mod Made
pub mod Nulls
pub mod OfType
pub mod Rows
pub mod Sound
pub mod Strings
pub mod Worked
