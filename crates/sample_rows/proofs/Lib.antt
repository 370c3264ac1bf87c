pub mod Tables
pub mod Strung
pub mod Texts
pub mod Slots
pub mod Fitting
pub mod Chunks
pub mod Counted
