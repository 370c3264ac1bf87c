pub mod Fixed
pub mod Keyed
pub mod Texts
