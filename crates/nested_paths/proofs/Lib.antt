pub mod Sides
pub mod Seen
pub mod Ends
pub mod Inners
pub mod Walks
pub mod Widths
pub mod Worked
pub mod Levels
pub mod CutLeaves
mod Merged
mod Values
mod Sames
mod Lasts
