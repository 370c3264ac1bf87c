pub mod Rising
pub mod Maxima
pub mod Runs
mod Same
pub mod Sizes
pub mod Columns
pub mod Stacks
pub mod Stretches
pub mod Flat
pub mod Bounds
pub mod ItemEnds
pub mod Wholes
