pub mod Exact
pub mod Plain
