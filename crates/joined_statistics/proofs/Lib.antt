pub mod Joined
pub mod Stated
pub mod Texts
