pub mod Filters
pub mod Steps
pub mod Truths
pub mod Spelling
