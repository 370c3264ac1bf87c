pub mod Depths
pub mod Faulty
pub mod Lengths
pub mod Joined
pub mod Leafy
pub mod Rooted
pub mod Ways
pub mod Order
