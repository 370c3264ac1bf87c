pub mod Values
pub mod Flat
pub mod Arrays
pub mod Sections
