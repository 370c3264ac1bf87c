pub mod Above
pub mod Fronts
pub mod Keeps
pub mod Made
pub mod Builds
pub mod Joined
pub mod Beneath
