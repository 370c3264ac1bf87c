pub mod Blocks
pub mod Decoding
pub mod Read
pub mod Reading
pub mod Sections
pub mod Waiting
