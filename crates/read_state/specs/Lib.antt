pub mod Kinds
pub mod Marks
pub mod Initial
pub mod Reach
pub mod Ticks
pub mod Told
