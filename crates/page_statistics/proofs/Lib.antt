pub mod Exist
pub mod Further
pub mod Places
pub mod Made
pub mod Unique
pub mod Kept
